-- An input that is accepted is not refused, and one that is answered is accepted.
use Rattle.std.proofs.Common.{◌≡◌, ℕ, ◌<◌, Bool, true, false, List, Option, Some, None, Ok, Err, sym, ap, subst, ◌∙◌, inl, inr, arith}
use Rattle.event_words.specs.Sections.{SectionOf}
use Rattle.script_reader.specs.Scripts.{need_of}
use Rattle.script_reader.specs.Answers.{reading_of}
use Rattle.script_reader.specs.LiveLanes.{lanes_at}
use Rattle.script_reader.specs.UpdateTexts.{UpdateTextOf, update_text_at}
use Rattle.policy_compiler.specs.Policies.{PolicyOf}
use Rattle.policy_compiler.specs.Gives.{Reads}
use Rattle.policy_compiler.specs.Needs.{need_refusal}
use Rattle.policy_compiler.proofs.OnePolicy.{same_policy, no_fault}
use Rattle.update_planner.specs.Refusals.{plan_refusal}
use Rattle.command_answers.specs.declared.status.Status.{Status}
use Rattle.command_answers.specs.declared.subcommand.Subcommand.{Subcommand}
use Rattle.command_answers.specs.declared.subcommand.Subcommand.TheVariants.{Run, Compile, Plan, Live, Gen, Soak, Faults, Audit, Narrow, NarrowLive}
use Rattle.command_answers.specs.declared.refusals.policy_lines.WhichPolicy.{WhichPolicy}
use Rattle.command_answers.specs.declared.refusals.policy_lines.WhichPolicy.TheVariants.{Only, Old, New}
use Rattle.command_answers.specs.PolicyLines.{policy_line, IsNoPolicy}
use Rattle.command_answers.specs.UpdateInputs.{UpdateOf, IsUpdate, IsNoUpdate, update_of}
use Rattle.command_answers.specs.UpdatePlans.{plan_section, narrow_section}
use Rattle.command_answers.specs.PlanCommand.{IsNotPlanned, CanBePlanned}
use Rattle.command_answers.specs.PlansBeside.{script_beside, CanRun, IsUpdateLine}
use Rattle.command_answers.specs.CommandTables.{Gives, IsRefused, IsAccepted}

-- a policy's text has no line
has_line : (bytes line : List ℕ) (p : PolicyOf) (which : WhichPolicy) → Reads (Ok p) bytes → IsNoPolicy which bytes line → ⊥
has_line bytes line p which a r =
    let none : policy_line which r.error ≡ None = ap (policy_line which) (no_fault bytes p r.error a r.fault) in
    let some = r.named in
    cc

-- ---- an input stands for one update

same_text : (lanes : Bool) (bytes : List ℕ) (t u : UpdateTextOf) → update_text_at lanes bytes ≡ Ok t → update_text_at lanes bytes ≡ Ok u → t ≡ u
same_text lanes bytes t u a b = cc

same_update : (lanes : Bool) (bytes : List ℕ) (u v : UpdateOf) → IsUpdate lanes bytes u → IsUpdate lanes bytes v → u ≡ v
same_update lanes bytes u v a b =
    let t : a.text ≡ b.text = same_text lanes bytes a.text b.text a.headed b.headed in
    let old : u.old ≡ v.old = same_policy b.text.old u.old v.old (subst (λ x. Reads (Ok u.old) x.old) t a.old) b.old in
    let new : u.new ≡ v.new = same_policy b.text.new u.new v.new (subst (λ x. Reads (Ok u.new) x.new) t a.new) b.new in
    a.is ∙ ap (λ p. update_of p u.new a.text) old ∙ ap (λ p. update_of v.old p a.text) new ∙ ap (update_of v.old v.new) t ∙ sym b.is

is_update : (lanes : Bool) (bytes line : List ℕ) (u : UpdateOf) → IsUpdate lanes bytes u → IsNoUpdate lanes bytes line → ⊥
is_update lanes bytes line u is (inl r) = let e = is.headed in let f = r.fault in cc
is_update lanes bytes line u is (inr (inl r)) =
    let t : is.text ≡ r.text = same_text lanes bytes is.text r.text is.headed r.headed in
    has_line r.text.old line u.old Old (subst (λ x. Reads (Ok u.old) x.old) t is.old) r.fault
is_update lanes bytes line u is (inr (inr r)) =
    let t : is.text ≡ r.text = same_text lanes bytes is.text r.text is.headed r.headed in
    has_line r.text.new line u.new New (subst (λ x. Reads (Ok u.new) x.new) t is.new) r.fault

-- an update whose plan runs beside its lanes has no line
plan_runs : (plan : UpdateOf → SectionOf) (line : List ℕ) (refused u : UpdateOf) → refused ≡ u → CanRun (plan u) u → IsUpdateLine (plan refused) refused line → ⊥
plan_runs plan line refused u same runs (inl f) =
    let fault : plan_refusal u.old u.new ≡ Some f.error = subst (λ x. plan_refusal x.old x.new ≡ Some f.error) same f.fault in
    let plans = runs.has.plans in
    cc
plan_runs plan line refused u same runs (inr (inl f)) =
    let fault : lanes_at u.first_line u.lanes ≡ Err f.lanes.bad = subst (λ x. lanes_at x.first_line x.lanes ≡ Err f.lanes.bad) same f.lanes.fault in
    let good = runs.has.lanes_are in
    cc
plan_runs plan line refused u same runs (inr (inr f)) =
    let read : lanes_at u.first_line u.lanes ≡ Ok f.lanes = subst (λ x. lanes_at x.first_line x.lanes ≡ Ok f.lanes) same f.has.lanes_are in
    let good = runs.has.lanes_are in
    let sections : f.lanes ≡ runs.lanes = cc in
    let many = subst (λ x. 1048576 < need_of (script_beside (plan x) x f.lanes)) same f.needs.many in
    let most = subst (λ x. 1048576 < need_of (script_beside (plan u) u x)) sections many in
    let few = runs.few in
    omega (arith, few, most)

-- two policies with a plan from one to the other have no line
two_planned : (bytes line : List ℕ) → CanBePlanned bytes → IsNotPlanned bytes line → ⊥
two_planned bytes line a (inl r) = is_update false bytes line a.update a.stands_for r
two_planned bytes line a (inr r) =
    let same : r.update ≡ a.update = same_update false bytes r.update a.update r.stands_for a.stands_for in
    let fault : plan_refusal a.update.old a.update.new ≡ Some r.is.error = subst (λ x. plan_refusal x.old x.new ≡ Some r.is.error) same r.is.fault in
    let plans = a.is in
    cc

-- ---- each command

pub never_refused : (command : Subcommand) (bytes line : List ℕ) → IsAccepted command bytes → IsRefused command bytes line → ⊥
never_refused Run bytes line a r = let e = a.1 in let f = r.refused in cc
never_refused Compile bytes line a (inl r) = has_line bytes line a.policy Only a.stands_for r
never_refused Compile bytes line a (inr r) =
    let same : r.policy ≡ a.policy = same_policy bytes r.policy a.policy r.stands_for a.stands_for in
    let needs : need_refusal a.policy ≡ Some r.is.error = subst (λ p. need_refusal p ≡ Some r.is.error) same r.is.needs in
    let fits = a.is in
    cc
never_refused Plan bytes line a r = two_planned bytes line a r
never_refused Live bytes line a (inl r) = is_update true bytes line a.update a.stands_for r
never_refused Live bytes line a (inr r) = plan_runs plan_section line r.update a.update (same_update true bytes r.update a.update r.stands_for a.stands_for) a.is r.is
never_refused (Gen number) bytes line a r = absurd r
never_refused (Soak number) bytes line a r = absurd r
never_refused Faults bytes line a r = let e = a.1 in let f = r.refused in cc
never_refused Audit bytes line a (inl r) = let e = a.parted in let f = r.fault in cc
never_refused Audit bytes line a (inr r) =
    let same : r.parts ≡ a.parts = (let e = a.parted in let f = r.parted in cc) in
    let refused : reading_of a.parts.script ≡ Err r.error = subst (λ t. reading_of t.script ≡ Err r.error) same r.refused in
    let read = a.stands_for in
    cc
never_refused Narrow bytes line a r = two_planned bytes line a r
never_refused NarrowLive bytes line a (inl r) = is_update true bytes line a.update a.stands_for r
never_refused NarrowLive bytes line a (inr r) = plan_runs narrow_section line r.update a.update (same_update true bytes r.update a.update r.stands_for a.stands_for) a.is r.is

-- ---- what is answered

-- An input that a command answers has none of its faults.
pub given_accepted : (command : Subcommand) (bytes : List ℕ) (status : Status) (history : Option (List ℕ)) (text : List ℕ) → Gives command bytes status history text → IsAccepted command bytes
given_accepted Run bytes status None text g = absurd g.1
given_accepted Run bytes status (Some words) text g = (g.1.script, g.1.stands_for)
given_accepted Compile bytes status history text g = record { policy = g.2.policy; stands_for = g.2.stands_for; is = g.2.is.fits }
given_accepted Plan bytes status history text g = record { update = g.2.update; stands_for = g.2.stands_for; is = g.2.is.plans }
given_accepted Live bytes status None text g = absurd g.1
given_accepted Live bytes status (Some words) text g =
    record { update = g.1.update; stands_for = g.1.stands_for; is = record { lanes = g.1.is.lanes; has = g.1.is.has; few = g.1.is.few } }
given_accepted (Gen number) bytes status history text g = tt
given_accepted (Soak number) bytes status history text g = tt
given_accepted Faults bytes status None text g = absurd g.1
given_accepted Faults bytes status (Some words) text g = (g.1.script, g.1.stands_for)
given_accepted Audit bytes status history text g = g.input
given_accepted Narrow bytes status history text g = record { update = g.2.update; stands_for = g.2.stands_for; is = g.2.is.plans }
given_accepted NarrowLive bytes status None text g = absurd g.1
given_accepted NarrowLive bytes status (Some words) text g =
    record { update = g.1.update; stands_for = g.1.stands_for; is = record { lanes = g.1.is.lanes; has = g.1.is.has; few = g.1.is.few } }

-- The causes of a refusal are exact: where one holds of the bytes, they give no text.
pub refused_gives_nothing : (command : Subcommand) (bytes line : List ℕ) (status : Status) (history : Option (List ℕ)) (text : List ℕ) → IsRefused command bytes line → Gives command bytes status history text → ⊥
refused_gives_nothing command bytes line status history text r g = never_refused command bytes line (given_accepted command bytes status history text g) r
