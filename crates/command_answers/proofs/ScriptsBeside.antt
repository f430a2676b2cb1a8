-- The script of a plan beside the lanes of its update, and why an update has none.
use Rattle.std.proofs.Common.{◌≡◌, ℕ, List, [], ◌∷◌, ◌++◌, map, Err, Result, None, Some, refl, sym, ◌∙◌, subst, arith}
use Rattle.std.specs.String.{string_bytes}
use Rattle.std.specs.List.{AllByRecursion}
use Rattle.event_words.specs.declared.section.Command.{Command}
use Rattle.event_words.specs.Sections.{SectionOf, NamesUnits}
use Rattle.event_words.proofs.ListItems.{all_append}
use Rattle.script_reader.specs.declared.script.ScriptError.{ScriptError}
use Rattle.script_reader.specs.declared.script.ScriptError.TheVariants.{BadLine, TooManyEvents}
use Rattle.script_reader.specs.declared.script.ScriptError.TheVariants as refusals
use Rattle.script_reader.specs.Answers.{Reads}
use Rattle.script_reader.specs.Scripts.{Bad, IsWellFormedScript}
use Rattle.script_reader.specs.LiveLanes.{lanes_at, AreLiveLanes}
use Rattle.policy_compiler.specs.Images.{ImageOf, image_of}
use Rattle.policy_compiler.proofs.ImageSections.{image_is_valid, image_names_unit_0}
use Rattle.update_planner.specs.Plans.{rewrite, rewrites, plan_commands}
use Rattle.command_answers.specs.declared.answers.NoAnswer.{NoAnswer}
use Rattle.command_answers.specs.declared.answers.NoAnswer.TheVariants.{Refused, NoMemory}
use Rattle.command_answers.specs.AnswerForms.{HasLine}
use Rattle.command_answers.specs.ScriptLines.{refusal_line}
use Rattle.command_answers.specs.UpdateInputs.{UpdateOf, IsReadable}
use Rattle.command_answers.specs.declared.inputs.update.WhichPlan.{WhichPlan}
use Rattle.command_answers.specs.declared.inputs.update.WhichPlan.TheVariants.{Whole, Narrow}
use Rattle.command_answers.specs.UpdatePlans.{wanted_section}
use Rattle.command_answers.specs.PlanCommand.{Plans}
use Rattle.narrow_plans.specs.Unaffected.{affected}
use Rattle.narrow_plans.specs.NarrowPlans.{stall_command, narrow_commands}
use Rattle.command_answers.specs.PlansBeside.{script_beside, IsPlayablePlan}
use Rattle.command_answers.specs.UpdateScripts.{IsLanesOr}

-- ---- the script is well-formed

rewrites_on_0 : (new : ImageOf) (indices : List ℕ) → AllByRecursion (NamesUnits 1) (map (rewrite new) indices)
rewrites_on_0 new [] = tt
rewrites_on_0 new (i ∷ is) = (omega arith, rewrites_on_0 new is)

plan_on_0 : (old new : ImageOf) (polls : ℕ) → AllByRecursion (NamesUnits 1) (plan_commands old new polls)
unfolding plan_commands rewrites
plan_on_0 old new polls = (omega arith, (omega arith, all_append (NamesUnits 1) (rewrites old new) _ (rewrites_on_0 new _) (omega arith, tt)))

stalls_on_0 : (ss : List ℕ) (rest : List Command) → AllByRecursion (NamesUnits 1) rest → AllByRecursion (NamesUnits 1) (map stall_command ss ++ rest)
stalls_on_0 [] rest h = h
stalls_on_0 (s ∷ ss) rest h = (omega arith, stalls_on_0 ss rest h)

narrow_on_0 : (old new : ImageOf) (polls : ℕ) → AllByRecursion (NamesUnits 1) (narrow_commands old new polls)
unfolding narrow_commands rewrites
narrow_on_0 old new polls = stalls_on_0 (affected old new) _ (omega arith, all_append (NamesUnits 1) (rewrites old new) _ (rewrites_on_0 new _) (omega arith, tt))

wanted_on_0 : (which : WhichPlan) (u : UpdateOf) → AllByRecursion (NamesUnits 1) (wanted_section which u).commands
wanted_on_0 Whole u = plan_on_0 (image_of u.old) (image_of u.new) u.polls
wanted_on_0 Narrow u = narrow_on_0 (image_of u.old) (image_of u.new) u.polls

-- the plan may be played
pub plan_may : (which : WhichPlan) (u : UpdateOf) (plan : SectionOf) → Plans (wanted_section which u) u plan → IsPlayablePlan u plan
plan_may which u plan p = record {
  plans = p.plans;
  old_fits = p.old_fits;
  valid = p.valid;
  units = subst (λ s. AllByRecursion (NamesUnits 1) s.commands) (sym p.is) (wanted_on_0 which u);
}

pub formed : (u : UpdateOf) (plan : SectionOf) (lanes : List SectionOf) → IsReadable u → IsPlayablePlan u plan → AreLiveLanes lanes → IsWellFormedScript (script_beside plan u lanes)
formed u plan lanes good p lane = record {
  some_units = omega arith;
  few_units = omega arith;
  shapes = (good.old.shape.valid, tt);
  few_lanes = let few = lane.few in omega arith;
  boot = image_is_valid u.old good.old p.old_fits;
  boot_units = image_names_unit_0 u.old;
  lanes = (p.valid, lane.valid);
  lanes_units = (p.units, lane.units_there);
}

-- ---- lanes

lane_line : (u : UpdateOf) (error : ScriptError) (e : NoAnswer) (read : Result (List SectionOf) Bad) → lanes_at u.first_line u.lanes ≡ read → Reads (Err error) read → HasLine e (refusal_line error) → IsLanesOr u (Err e)
lane_line u (BadLine line code) (Refused text) read is h named = record { bad = record { line = line; code = code }; fault = is ∙ h; named = named }
lane_line u (TooManyEvents need have) (Refused text) read is h named = absurd h
lane_line u refusals.NoMemory (Refused text) read is h named = absurd (let n : None ≡ Some (string_bytes text) = named in cc)
lane_line u error NoMemory read is h named = tt

pub lanes_or : (u : UpdateOf) (text : List ℕ) (error : ScriptError) (e : NoAnswer) → text ≡ u.lanes → Reads (Err error) (lanes_at u.first_line text) → HasLine e (refusal_line error) → IsLanesOr u (Err e)
lanes_or u text error e same h named = lane_line u error e _ refl (subst (λ t. Reads (Err error) (lanes_at u.first_line t)) same h) named
