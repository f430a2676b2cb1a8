-- What `plan` and `narrow` answer: they differ in the plan alone.
use Rattle.std.specs.Prelude.{◌≡◌, ◌⊎◌, ℕ, List, ◌++◌, None, Ok, false, codes}
use Rattle.event_words.specs.Sections.{SectionOf, IsValidSection}
use Rattle.script_reader.specs.Scripts.{ScriptOf}
use Rattle.script_reader.specs.Answers.{reading_of}
use Rattle.script_reader.specs.Canonical.{with_lane, text_before_end}
use Rattle.script_reader.specs.Printed.{lane_text}
use Rattle.policy_compiler.specs.Needs.{need_refusal}
use Rattle.policy_compiler.specs.Images.{image_of}
use Rattle.update_planner.specs.Refusals.{plan_refusal}
use Rattle.command_answers.specs.CompileCommand.{image_script}
use Rattle.command_answers.specs.declared.inputs.update.WhichPlan.{WhichPlan}
use Rattle.command_answers.specs.UpdateInputs.{UpdateOf, OfUpdate, IsNoUpdate, HasNoPlan}
use Rattle.command_answers.specs.UpdatePlans.{wanted_section}

-- ---- of an update

-- the script of the old policy's image
abbrev pub old_script : UpdateOf → ScriptOf
old_script u = image_script (image_of u.old)

-- There is a plan from one policy to the other, and the text is this one as lane 1. In place of the last line of
-- the old image's script it is read as that script's lane.
pub record IsPlanText (plan : SectionOf) (u : UpdateOf) (text : List ℕ) : Type 0 where
  pub plans : plan_refusal u.old u.new ≡ None
  pub printed : text ≡ lane_text 1 plan ++ codes "end\n"
  pub read_back : reading_of (text_before_end (old_script u) ++ text) ≡ Ok (with_lane (old_script u) plan)

-- there is one, and a section is the plan that is wanted; both policies fit one unit
pub record Plans (wanted : SectionOf) (u : UpdateOf) (section : SectionOf) : Type 0 where
  pub plans : plan_refusal u.old u.new ≡ None
  pub is : section ≡ wanted
  pub valid : IsValidSection section
  pub shapes : u.old.shape ≡ u.new.shape
  pub old_fits : need_refusal u.old ≡ None
  pub new_fits : need_refusal u.new ≡ None

-- ---- of an input

abbrev pub IsPlanned : WhichPlan → List ℕ → List ℕ → Type 0
IsPlanned which bytes text = OfUpdate false (λ u. IsPlanText (wanted_section which u) u text) bytes

abbrev pub IsNotPlanned : List ℕ → List ℕ → Type 0
IsNotPlanned bytes line = IsNoUpdate false bytes line ⊎ OfUpdate false (λ u. HasNoPlan u line) bytes

-- two policies with a plan from one to the other
abbrev pub CanBePlanned : List ℕ → Type 0
CanBePlanned bytes = OfUpdate false (λ u. plan_refusal u.old u.new ≡ None) bytes
