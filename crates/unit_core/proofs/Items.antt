-- What a step does to the open submissions of a unit, by cases.
use Rattle.std.proofs.Common.{◌≡◌, ℕ, ◌+◌, ◌≤◌, ◌++◌, Bool, true, false, not, cond, ltb, List, [], ◌∷◌, Option, Some, None, map, find, refl, ◌∙◌, subst, arith, ◌⊎◌, inl, inr}
use Rattle.std.specs.Prelude.{count_by}
use Rattle.std.specs.List.{AllByRecursion}
use Rattle.std.proofs.lemmas.Bool.{cond_both, not-false, not-true}
use Rattle.std.proofs.lemmas.List.Sums.{sum_by-cons, sum_by-append}
use Rattle.event_words.proofs.ListItems.{all_push, all_of}
use Rattle.event_words.specs.declared.access.Access.{Access}
use Rattle.event_words.specs.declared.reply.Denial.{Denial}
use Rattle.event_words.specs.declared.reply.Decision.{Decision}
use Rattle.event_words.specs.declared.reply.Decision.TheVariants as decisions
use Rattle.event_words.specs.declared.reply.Verdict.{Verdict}
use Rattle.event_words.specs.declared.reply.Reply.{Reply}
use Rattle.event_words.specs.declared.reply.Reply.TheVariants as replies
use Rattle.event_words.specs.declared.register.Register.TheVariants.{ErrCfg}
use Rattle.event_words.specs.Registers.{has_bit}
use Rattle.event_words.specs.Guards.{reg}
use Rattle.event_words.specs.Stalls.{flag_of}
use Rattle.event_words.specs.Denials.{denial}
use Rattle.event_words.specs.Decisions.{decision}
use Rattle.unit_core.specs.declared.Submission.{Submission}
use Rattle.unit_core.specs.Submissions.{is_item, without_item, is_queued, released_item}
use Rattle.event_words.specs.declared.event.Event.{Event}
use Rattle.event_words.specs.declared.event.Event.TheVariants.{RegWrite, RegRead, Submit, Judge}
use Rattle.unit_core.specs.Units.{UnitState, unit_step, submit_step, judge_step, judge_item, verdict_step, closed, opened, denied, stall_denial, is_stalled, queue_length}

-- ---- what a step does, by cases

-- A submission opens, and is queued where its requester is stalled, or it opens nothing.
pub submit_cases : (Q : UnitState × Reply → Type 0) (k : ℕ) (x : UnitState) (caller : ℕ) (a : Access)
    → (is_stalled x a.rrid ≡ false → Q (opened k caller a false x, replies.Passed))
    → (is_stalled x a.rrid ≡ true → ltb (queue_length x) x.registers.shape.queue ≡ true → Q (opened k caller a true x, replies.Queued))
    → ((d : Denial) → Q (denied x a d, replies.Stalled d))
    → Q (x, replies.Busy)
    → Q (submit_step k x caller a)
submit_cases Q k x caller a p q r s =
    cond_both (not (is_stalled x a.rrid)) _ _ Q
    (λ e. p (not-true (is_stalled x a.rrid) e))
    (λ e. cond_both (ltb (queue_length x) x.registers.shape.queue) _ _ Q
    (λ f. q (not-false (is_stalled x a.rrid) e) f)
    (λ f. cond_both (has_bit (reg x.registers ErrCfg) 3) _ _ Q (λ g. r (stall_denial x)) (λ g. s)))

verdict_cases : (Q : UnitState × Reply → Type 0) (x : UnitState) (a : Access) (d : Decision) → ((v : Verdict) → Q (x, replies.Verdict v)) → ((d : Denial) (v : Verdict) → Q (denied x a d, replies.Verdict v)) → Q (verdict_step x a d)
verdict_cases Q x a decisions.Allowed r s = r _
verdict_cases Q x a (decisions.Denied kind entry mute_irq mute_err) r s =
    s (denial x.registers kind entry mute_irq mute_err) _

-- A judgement finds nothing, or a queued submission, or it closes one in flight.
pub judge_cases : (Q : UnitState × Reply → Type 0) (x : UnitState) (place caller : ℕ)
    → (find (is_item place caller) x.submissions ≡ None → Q (x, replies.NoSuch))
    → ((item : Submission) → find (is_item place caller) x.submissions ≡ Some item → item.queued ≡ true → Q (x, replies.Held))
    → ((item : Submission) → find (is_item place caller) x.submissions ≡ Some item → item.queued ≡ false → (v : Verdict) → Q (closed place caller x, replies.Verdict v))
    → ((item : Submission) → find (is_item place caller) x.submissions ≡ Some item → item.queued ≡ false → (d : Denial) (v : Verdict) → Q (denied (closed place caller x) item.access d, replies.Verdict v))
    → Q (judge_step x place caller)
judge_cases Q x place caller p q r s = by_item (find (is_item place caller) x.submissions) refl
  where
    by_item : (o : Option Submission) → find (is_item place caller) x.submissions ≡ o → Q (judge_item x place caller o)
    by_item None e = p e
    by_item (Some item) e =
        cond_both item.queued _ _ Q (λ f. q item e f) (λ f. verdict_cases Q (closed place caller x) item.access (decision x.registers item.access) (r item e f) (s item e f))

-- ---- the open submissions as a list

pub all_map : {X : Type 0} (P Q : X → Type 0) (f : X → X) (xs : List X) → ((x : X) → P x → Q (f x)) → AllByRecursion P xs → AllByRecursion Q (map f xs)
all_map P Q f [] each h = tt
all_map P Q f (x ∷ xs) each h = (each x h.0, all_map P Q f xs each h.1)

pub all_without : (P : Submission → Type 0) (place caller : ℕ) (xs : List Submission) → AllByRecursion P xs → AllByRecursion P (without_item place caller xs)
all_without P place caller [] h = tt
all_without P place caller (x ∷ xs) h =
    cond_both (is_item place caller x) xs (x ∷ without_item place caller xs) (AllByRecursion P) (λ e. h.1) (λ e. (h.0, all_without P place caller xs h.1))

-- ---- how many are queued

abbrev weight : Submission → ℕ
weight item = cond (is_queued item) 1 0

pub count_append : (xs : List Submission) (y : Submission) → count_by is_queued (xs ++ y ∷ []) ≡ count_by is_queued xs + cond y.queued 1 0
count_append xs y = sum_by-append weight xs (y ∷ []) ∙ omega arith

pub count_without : (place caller : ℕ) (xs : List Submission) → count_by is_queued (without_item place caller xs) ≤ count_by is_queued xs
count_without place caller [] = omega arith
count_without place caller (x ∷ xs) =
    cond_both (is_item place caller x) xs (x ∷ without_item place caller xs) (λ ys. count_by is_queued ys ≤ count_by is_queued (x ∷ xs))
    (λ e. omega (arith, sum_by-cons weight x xs))
    (λ e. omega (arith, sum_by-cons weight x xs, sum_by-cons weight x (without_item place caller xs), count_without place caller xs))

-- A release leaves a submission as it is where its requester is stalled, and lets it go elsewhere.
pub released_cases : (P : Submission → Type 0) (flags : List Bool) (item : Submission) → (flag_of flags item.access.rrid ≡ true → P item) → (flag_of flags item.access.rrid ≡ false → P (record item { queued = false })) → P (released_item flags item)
released_cases P flags item stays goes =
    cond_both (flag_of flags item.access.rrid) item (record item { queued = false }) P stays goes

fewer : (flags : List Bool) (item : Submission) → weight (released_item flags item) ≤ weight item
fewer flags item = released_cases (λ y. weight y ≤ weight item) flags item (λ e. omega arith) (λ e. omega arith)

pub count_released : (flags : List Bool) (xs : List Submission) → count_by is_queued (map (released_item flags) xs) ≤ count_by is_queued xs
count_released flags [] = omega arith
count_released flags (x ∷ xs) =
    omega (arith, sum_by-cons weight x xs, sum_by-cons weight (released_item flags x) (map (released_item flags) xs), fewer flags x, count_released flags xs)

pub all_found : (P : Submission → Type 0) (f : Submission → Bool) (xs : List Submission) (y : Submission) → find f xs ≡ Some y → AllByRecursion P xs → P y × (f y ≡ true)
all_found P f [] y e h = absurd (let n : None ≡ Some y = e in cc)
all_found P f (x ∷ xs) y e h =
    cond_both (f x) (Some x) (find f xs) (λ o. o ≡ Some y → P y × (f y ≡ true))
    (λ t q. let s : x ≡ y = cc in subst (λ z. P z × (f z ≡ true)) s (h.0, t))
    (λ t q. all_found P f xs y q h.1) e

-- A verdict is given on an open submission that isn't queued.
pub judged : (x : UnitState) (place caller : ℕ) (v : Verdict) → (judge_step x place caller).1 ≡ replies.Verdict v
    → (item : Submission) × (find (is_item place caller) x.submissions ≡ Some item) × (item.queued ≡ false)
judged x place caller v =
    judge_cases (λ r. r.1 ≡ replies.Verdict v → (item : Submission) × (find (is_item place caller) x.submissions ≡ Some item) × (item.queued ≡ false)) x place caller
    (λ e q. absurd (let n : replies.NoSuch ≡ replies.Verdict v = q in cc))
    (λ item e f q. absurd (let n : replies.Held ≡ replies.Verdict v = q in cc))
    (λ item e f w q. (item, e, f))
    (λ item e f d w q. (item, e, f))

-- What holds of each open submission after a step: it stays, it is let go where its requester isn't
-- stalled any more, or it is new.
pub items_step : (P Q : Submission → Type 0) (k : ℕ) (x : UnitState) (e : Event) → ((item : Submission) → P item → Q item)
    → ((item : Submission) → P item → Q (released_item (unit_step k x e).0.flags item))
    → ((unit caller : ℕ) (a : Access) (queued : Bool) → e ≡ Submit unit caller a → is_stalled x a.rrid ≡ queued → ((unit_step k x e).1 ≡ replies.Passed) ⊎ ((unit_step k x e).1 ≡ replies.Queued) → Q (record { place = k; caller = caller; access = a; queued = queued }))
    → AllByRecursion P x.submissions → AllByRecursion Q (unit_step k x e).0.submissions
items_step P Q k x (RegWrite unit caller index value) stays freed new h = all_map P Q (released_item _) x.submissions freed h
items_step P Q k x (RegRead unit caller index) stays freed new h = all_of P Q x.submissions stays h
items_step P Q k x (Submit unit caller a) stays freed new h =
    let on = all_of P Q x.submissions stays h in
    submit_cases (λ r. (submit_step k x caller a).1 ≡ r.1 → AllByRecursion Q r.0.submissions) k x caller a
    (λ e q. all_push Q x.submissions _ on (new unit caller a false refl e (inl q)))
    (λ e f q. all_push Q x.submissions _ on (new unit caller a true refl e (inr q))) (λ d q. on) (λ q. on) refl
items_step P Q k x (Judge unit caller place) stays freed new h =
    let on = all_of P Q x.submissions stays h in
    judge_cases (λ r. AllByRecursion Q r.0.submissions) x place caller (λ e. on) (λ item e f. on)
    (λ item e f v. all_without Q place caller x.submissions on) (λ item e f d v. all_without Q place caller x.submissions on)
items_step P Q k x _ stays freed new h = all_of P Q x.submissions stays h
