-- What is printed is read as the script, or the lane, that it was printed from.
use Rattle.std.proofs.Common.{◌≡◌, ℕ, ◌≤◌, List, [], ◌∷◌, ◌++◌, length, map, filter, sum_by, None, Ok, refl, ap, subst, ◌∙◌, arith}
use Rattle.std.specs.Prelude.{codes}
use Rattle.std.specs.List.{AllByRecursion, range_with_len}
use Rattle.std.proofs.lemmas.List.FromFn.{length-range_with_len}
use Rattle.std.proofs.lemmas.List.Sums.{sum_by-cons, sum_by-append, length-filter, count_by-le-length}
use Rattle.event_words.specs.declared.section.Command.{Command}
use Rattle.event_words.specs.declared.section.Command.TheVariants.{Write, Until}
use Rattle.event_words.specs.Registers.{index_count, index_of}
use Rattle.event_words.specs.declared.register.Register.TheVariants.{Mdstall}
use Rattle.event_words.specs.Sections.{SectionOf, most_events, most_section_events}
use Rattle.script_reader.specs.Answers.{reading_of}
use Rattle.script_reader.specs.Canonical.{IsReadableScript, with_lane, text_before_end}
use Rattle.script_reader.specs.Printed.{script_text, lane_text}
use Rattle.script_reader.specs.Scripts.{IsWellFormedScript}
use Rattle.script_reader.specs.Told.{IsToldWhole}
use Rattle.script_reader.proofs.WrittenScripts.{script_reads_back, lane_reads_back}
use Rattle.policy_compiler.specs.declared.image.RegPair.{RegPair}
use Rattle.policy_compiler.specs.Policies.{PolicyOf, IsPolicy}
use Rattle.policy_compiler.specs.Needs.{need_refusal}
use Rattle.policy_compiler.specs.Images.{ImageOf, image_of}
use Rattle.policy_compiler.specs.Commands.{write_command, image_section}
use Rattle.policy_compiler.proofs.ImageSections.{few_writes, image_is_valid, image_names_unit_0}
use Rattle.update_planner.specs.Plans.{is_rewritten, rewrite, rewrites, plan_commands}
use Rattle.command_answers.specs.CompileCommand.{image_script}
use Rattle.command_answers.specs.UpdateInputs.{UpdateOf, IsReadable}
use Rattle.command_answers.specs.declared.inputs.update.WhichPlan.{WhichPlan}
use Rattle.command_answers.specs.declared.inputs.update.WhichPlan.TheVariants.{Whole, Narrow}
use Rattle.command_answers.specs.UpdatePlans.{wanted_section}
use Rattle.command_answers.specs.PlanCommand.{old_script, Plans}
use Rattle.command_answers.specs.PlansBeside.{IsPlayablePlan}
use Rattle.narrow_plans.specs.Unaffected.{is_affected, affected}
use Rattle.narrow_plans.specs.NarrowPlans.{stall_command, narrow_commands}
use Rattle.command_answers.proofs.ScriptsBeside as beside

-- ---- writes

writes_told : (ws : List RegPair) → AllByRecursion IsToldWhole (map write_command ws)
writes_told [] = tt
writes_told (w ∷ ws) = (tt, writes_told ws)

writes_events : (ws : List RegPair) → sum_by most_events (map write_command ws) ≡ length ws
writes_events [] = refl
writes_events (w ∷ ws) = omega (arith, sum_by-cons most_events (write_command w) (map write_command ws), writes_events ws)

-- ---- an image

image_formed : (policy : PolicyOf) → IsPolicy policy → need_refusal policy ≡ None → IsWellFormedScript (image_script (image_of policy))
unfolding image_of
image_formed policy good fits = record {
  some_units = omega arith;
  few_units = omega arith;
  shapes = (good.shape.valid, tt);
  few_lanes = omega arith;
  boot = image_is_valid policy good fits;
  boot_units = image_names_unit_0 policy;
  lanes = tt;
  lanes_units = tt;
}

image_events : (policy : PolicyOf) → IsPolicy policy → need_refusal policy ≡ None → most_section_events (image_section (image_of policy)) ≤ 65536
image_events policy good fits = let few = few_writes policy good fits in omega (arith, few, writes_events (image_of policy).writes)

pub image_read_back : (policy : PolicyOf) (text : List ℕ) → IsPolicy policy → need_refusal policy ≡ None → text ≡ script_text (image_script (image_of policy)) → reading_of text ≡ Ok (image_script (image_of policy))
image_read_back policy text good fits printed =
    ap reading_of printed ∙ script_reads_back (image_script (image_of policy)) (record {
      formed = image_formed policy good fits;
      few = let few = image_events policy good fits in omega (arith, few);
      whole = record { boot = writes_told (image_of policy).writes; lanes = tt };
    })

-- ---- a plan

module _ (new : ImageOf) where
  rewrites_told : (is : List ℕ) (rest : List Command) → AllByRecursion IsToldWhole rest → AllByRecursion IsToldWhole (map (rewrite new) is ++ rest)
  rewrites_told [] rest h = h
  rewrites_told (i ∷ is) rest h = (tt, rewrites_told is rest h)

  rewrites_events : (is : List ℕ) → sum_by most_events (map (rewrite new) is) ≡ length is
  rewrites_events [] = refl
  rewrites_events (i ∷ is) = omega (arith, sum_by-cons most_events (rewrite new i) (map (rewrite new) is), rewrites_events is)

rewritten_few : (old new : ImageOf) → length (filter (is_rewritten old new) (range_with_len 0 (index_count new.shape))) ≤ index_count new.shape
rewritten_few old new =
    let all = range_with_len 0 (index_count new.shape) in
    let e = length-filter (is_rewritten old new) all in
    let l = count_by-le-length (is_rewritten old new) all in
    omega (arith, e, l, length-range_with_len 0 (index_count new.shape))

plan_told : (old new : ImageOf) (polls : ℕ) → AllByRecursion IsToldWhole (plan_commands old new polls)
unfolding plan_commands rewrites
plan_told old new polls =
    let last : List Command = Write 0 (index_of Mdstall) 0 ∷ [] in
    (tt, (tt, rewrites_told new (filter (is_rewritten old new) (range_with_len 0 (index_count new.shape))) last (tt, tt)))

plan_events : (old new : ImageOf) (polls : ℕ) → new.shape.entries ≤ 1024 → polls ≤ 4096 → sum_by most_events (plan_commands old new polls) ≤ 65536
unfolding plan_commands rewrites
plan_events old new polls entries few =
    let stall : ℕ = index_of Mdstall in
    let indices : List ℕ = filter (is_rewritten old new) (range_with_len 0 (index_count new.shape)) in
    let last : List Command = Write 0 stall 0 ∷ [] in
    omega (
      arith,
      entries,
      few,
      sum_by-cons most_events (Write 0 stall 1) (Until 0 stall 1 0 polls ∷ (map (rewrite new) indices ++ last)),
      sum_by-cons most_events (Until 0 stall 1 0 polls) (map (rewrite new) indices ++ last),
      sum_by-append most_events (map (rewrite new) indices) last,
      rewrites_events new indices,
      rewritten_few old new,
    )

readable : (u : UpdateOf) (plan : SectionOf) → IsReadable u → IsPlayablePlan u plan → AllByRecursion IsToldWhole plan.commands → most_section_events plan ≤ 65536 → IsReadableScript (with_lane (old_script u) plan)
unfolding image_of
readable u plan good p told few = record {
  formed = beside.formed u plan [] good p (record { few = omega arith; valid = tt; units_there = tt; write_nothing = tt });
  few =
      let boot = image_events u.old good.old p.old_fits in
      omega (arith, few, boot);
  whole = record { boot = writes_told (image_of u.old).writes; lanes = (told, tt) };
}

-- so of any plan that is told whole and has few events
pub lane_read_back : (u : UpdateOf) (plan : SectionOf) (text : List ℕ) → IsReadable u → IsPlayablePlan u plan → AllByRecursion IsToldWhole plan.commands → most_section_events plan ≤ 65536 → text ≡ lane_text 1 plan ++ codes "end\n"
    → reading_of (text_before_end (old_script u) ++ text) ≡ Ok (with_lane (old_script u) plan)
lane_read_back u plan text good p told few printed =
    ap (λ t. reading_of (text_before_end (old_script u) ++ t)) printed ∙ lane_reads_back 1 plan (old_script u) refl (readable u plan good p told few)

-- ---- a narrow plan

stalls_told : (ss : List ℕ) (rest : List Command) → AllByRecursion IsToldWhole rest → AllByRecursion IsToldWhole (map stall_command ss ++ rest)
stalls_told [] rest h = h
stalls_told (s ∷ ss) rest h = (tt, stalls_told ss rest h)

narrow_told : (old new : ImageOf) (polls : ℕ) → AllByRecursion IsToldWhole (narrow_commands old new polls)
unfolding narrow_commands rewrites
narrow_told old new polls =
    let last : List Command = Write 0 (index_of Mdstall) 0 ∷ [] in
    stalls_told (affected old new) _ (tt, rewrites_told new (filter (is_rewritten old new) (range_with_len 0 (index_count new.shape))) last (tt, tt))

stalls_events : (ss : List ℕ) → sum_by most_events (map stall_command ss) ≡ length ss
stalls_events [] = refl
stalls_events (s ∷ ss) = omega (arith, sum_by-cons most_events (stall_command s) (map stall_command ss), stalls_events ss)

affected_few : (old new : ImageOf) → length (affected old new) ≤ old.shape.rrids
unfolding affected
affected_few old new =
    let all = range_with_len 0 old.shape.rrids in
    let e = length-filter (is_affected old new) all in
    let l = count_by-le-length (is_affected old new) all in
    omega (arith, e, l, length-range_with_len 0 old.shape.rrids)

narrow_events : (old new : ImageOf) (polls : ℕ) → old.shape.rrids ≤ 64 → new.shape.entries ≤ 1024 → polls ≤ 4096 → sum_by most_events (narrow_commands old new polls) ≤ 65536
unfolding narrow_commands rewrites
narrow_events old new polls known entries few =
    let stall : ℕ = index_of Mdstall in
    let indices : List ℕ = filter (is_rewritten old new) (range_with_len 0 (index_count new.shape)) in
    let last : List Command = Write 0 stall 0 ∷ [] in
    omega (
      arith,
      known,
      entries,
      few,
      affected_few old new,
      sum_by-append most_events (map stall_command (affected old new)) (Until 0 stall 1 0 polls ∷ (map (rewrite new) indices ++ last)),
      stalls_events (affected old new),
      sum_by-cons most_events (Until 0 stall 1 0 polls) (map (rewrite new) indices ++ last),
      sum_by-append most_events (map (rewrite new) indices) last,
      rewrites_events new indices,
      rewritten_few old new,
    )

-- ---- the plan that is wanted

wanted_told : (which : WhichPlan) (u : UpdateOf) → AllByRecursion IsToldWhole (wanted_section which u).commands
wanted_told Whole u = plan_told (image_of u.old) (image_of u.new) u.polls
wanted_told Narrow u = narrow_told (image_of u.old) (image_of u.new) u.polls

wanted_few : (which : WhichPlan) (u : UpdateOf) → IsReadable u → most_section_events (wanted_section which u) ≤ 65536
unfolding image_of
wanted_few Whole u good =
    let entries = good.new.shape.valid.entries in
    plan_events (image_of u.old) (image_of u.new) u.polls (omega arith) (good.polls.few)
wanted_few Narrow u good =
    let known = good.old.shape.valid.rrids in
    let entries = good.new.shape.valid.entries in
    narrow_events (image_of u.old) (image_of u.new) u.polls (omega arith) (omega arith) (good.polls.few)

pub plan_read_back : (which : WhichPlan) (u : UpdateOf) (section : SectionOf) (text : List ℕ) → IsReadable u → Plans (wanted_section which u) u section → text ≡ lane_text 1 (wanted_section which u) ++ codes "end\n"
    → reading_of (text_before_end (old_script u) ++ text) ≡ Ok (with_lane (old_script u) (wanted_section which u))
plan_read_back which u section text good p printed =
    lane_read_back u (wanted_section which u) text good (subst (IsPlayablePlan u) p.is (beside.plan_may which u section p)) (wanted_told which u) (wanted_few which u good) printed
