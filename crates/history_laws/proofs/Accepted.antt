-- A Submit or a Wide that was passed or queued is a submission of some access.
use Rattle.std.proofs.Common.{◌≡◌, ℕ, ◌+◌, ◌^◌, nat_le, Some, None, sym, ap, ◌∙◌, ◌⊎◌, inl, inr}
use Rattle.std.specs.Prelude.{option_map, option_and_then}
use Rattle.std.proofs.lemmas.Bool.{cond-true, cond-false}
use Rattle.event_words.specs.declared.access.Access.{Access}
use Rattle.event_words.specs.declared.event.Event.{Event}
use Rattle.event_words.specs.declared.event.Event.TheVariants.{RegWrite, RegRead, Submit, Judge, Aim, Wide}
use Rattle.event_words.specs.declared.reply.Reply.TheVariants as replies
use Rattle.event_words.proofs.Cases.{by_test}
use Rattle.unit_core.specs.Submissions.{SubmittedAccess, submitted}
use Rattle.unit_core.specs.Submitted.{IsSubmission, taken_at}
use Rattle.unit_core.specs.Units.{taken_as, wide_access, taken_step, event_step}
use Rattle.unit_core.specs.Histories.{History, units_at, aims_at, event_at, reply_at}
use Rattle.history_laws.specs.Tickets.{IsTaken}

-- an event by which the caller submits an access on the unit
abbrev pub Submits : ℕ → ℕ → Event → Type 0
Submits u c (Submit v d a) = (v ≡ u) × (d ≡ c)
Submits u c (Wide v d rrid kind len) = (v ≡ u) × (d ≡ c)
Submits u c _ = ⊥

abbrev IsAccepted : History → ℕ → Type 0
IsAccepted h p = (reply_at h p ≡ Some replies.Passed) ⊎ (reply_at h p ≡ Some replies.Queued)

never_none : (h : History) (p : ℕ) → IsAccepted h p → reply_at h p ≡ Some replies.NoSuch → ⊥
never_none h p (inl r) q = let n : Some replies.NoSuch ≡ Some replies.Passed = sym q ∙ r in cc
never_none h p (inr r) q = let n : Some replies.NoSuch ≡ Some replies.Queued = sym q ∙ r in cc

submission_by : (h : History) (u c p : ℕ) (a : Access) (v d : ℕ) → v ≡ u → d ≡ c → taken_at h p ≡ Some (Submit v d a)
    → IsSubmission h p u c a
submission_by h u c p a v d i j q = ap (option_and_then submitted) q ∙ (let n : Some (let s : SubmittedAccess = record { unit = v; caller = d; access = a } in s) ≡ Some (record { unit = u; caller = c; access = a }) = cc in n)

-- A Submit or a Wide that was passed or queued is a submission of some access.
pub taken_submission : (h : History) (u c p : ℕ) (e : Event) → event_at h p ≡ Some e → Submits u c e
    → (reply_at h p ≡ Some replies.Passed) ⊎ (reply_at h p ≡ Some replies.Queued) → (a : Access) × IsTaken h u c p a
taken_submission h u c p (RegWrite v d i n) q s r = absurd s
taken_submission h u c p (RegRead v d i) q s r = absurd s
taken_submission h u c p (Judge v d k) q s r = absurd s
taken_submission h u c p (Aim d addr) q s r = absurd s
taken_submission h u c p (Submit v d a) q s r = (a, record { event = submission_by h u c p a v d s.0 s.1 (ap (option_and_then (taken_as (aims_at h p))) q); reply = r })
taken_submission h u c p (Wide v d rrid kind len) q s r =
    let a = wide_access (aims_at h p) d rrid kind len in
    let whole = ap (option_and_then (taken_as (aims_at h p))) q in
    by_test (nat_le (a.addr + a.len) (2 ^ 52)) _
    (λ t. (a, record { event = submission_by h u c p a v d s.0 s.1 (whole ∙ cond-true _ (Some (Submit v d a)) None t); reply = r }))
    (λ t. absurd (never_none h p r
    (ap (option_map (λ (e : Event). (event_step p (aims_at h p) (units_at h p) e).1)) q ∙ ap (λ o. Some (taken_step p (units_at h p) o).1) (cond-false (nat_le (a.addr + a.len) (2 ^ 52)) (Some (Submit v d a)) None t))))
