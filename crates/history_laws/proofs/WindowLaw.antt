-- The law of drained windows: in one a requester's open submissions are queued.
use Rattle.std.proofs.Common.{◌≡◌, ℕ, suc, zero, ◌+◌, ◌≤◌, Bool, true, false, not, eqb, ◌&&◌, List, [], ◌∷◌, Option, Some, None, refl, sym, ap, ◌∙◌, subst, arith, ◌⊎◌, inl, inr, ⊎_elim}
use Rattle.std.specs.Prelude.{slice_get, option_map}
use Rattle.std.specs.Int.{bit_at}
use Rattle.std.specs.List.{AllByRecursion, list_any}
use Rattle.std.proofs.lemmas.Bool.{and_parts, eqb-true, or_parts, false≢true, cases_eq}
use Rattle.event_words.specs.Guards.{reg}
use Rattle.event_words.specs.declared.register.Register.TheVariants.{Mdstall}
use Rattle.event_words.specs.declared.shape.Shape.{Shape}
use Rattle.event_words.specs.declared.access.Access.{Access}
use Rattle.event_words.specs.declared.event.Event.{Event}
use Rattle.event_words.specs.declared.event.Event.TheVariants.{RegWrite, RegRead, Submit, Judge}
use Rattle.event_words.specs.declared.reply.Reply.TheVariants as replies
use Rattle.event_words.specs.Registers.{has_bit, count_of_bool, index_of}
use Rattle.event_words.specs.Stalls.{flag_of}
use Rattle.unit_core.specs.declared.Submission.{Submission}
use Rattle.unit_core.specs.Submissions.{is_item, is_draining}
use Rattle.event_words.specs.Events.{unit_of}
use Rattle.unit_core.specs.Units.{UnitState, unit_step, is_stalled, is_busy, read_value}
use Rattle.unit_core.specs.Histories.{History, state_at, reply_at}
use Rattle.unit_core.specs.Submitted.{taken_at}
use Rattle.unit_core.specs.Windows.{is_flagged, IsInDrainedWindow}
use Rattle.history_laws.specs.Tickets.{IsTaken}
use Rattle.history_laws.specs.Windows.{LawWindows}
use Rattle.unit_core.proofs.Runs.{own, own_next, own_state, own_induction, own_at, as_it_is, reply_is, reply_of, submission_taken, submit_of}
use Rattle.unit_core.proofs.Registers.{written_even, recorded_even, reset_even}
use Rattle.unit_core.proofs.Items.{submit_cases, judge_cases, items_step, all_found, judged, released_cases}

-- ---- open submissions come from their events

pub record IsFrom (h : History) (u : ℕ) (item : Submission) : Type 0 where
  pub taken : IsTaken h u item.caller item.place item.access

new_from : (h : History) (u k : ℕ) (x : UnitState) (e : Event) (unit caller : ℕ) (a : Access) → taken_at h k ≡ Some e → unit_of e ≡ Some u
    → e ≡ Submit unit caller a → reply_at h k ≡ Some (unit_step k x e).1
    → ((unit_step k x e).1 ≡ replies.Passed) ⊎ ((unit_step k x e).1 ≡ replies.Queued) → IsTaken h u caller k a
new_from h u k x e unit caller a q t s r taken = record {
  event = submission_taken h k u caller a (q ∙ ap (λ f. Some f) s ∙ (let m : unit_of (Submit unit caller a) ≡ Some u = ap unit_of (sym s) ∙ t in let n : unit ≡ u = cc in ap (λ n. Some (Submit n caller a)) n));
  reply = ⊎_elim (λ p. inl (r ∙ ap (λ y. Some y) p)) (λ p. inr (r ∙ ap (λ y. Some y) p)) taken;
}

pub own_from : (h : History) (u : ℕ) (shape : Shape) → slice_get h.shapes u ≡ Some shape → (k : ℕ)
    → AllByRecursion (IsFrom h u) (own_state h u shape k).submissions
own_from h u shape there zero = tt
own_from h u shape there (suc k) =
    let x = own_state h u shape k in
    let before = own_from h u shape there k in
    own_next (λ y. AllByRecursion (IsFrom h u) y.submissions) k u x (taken_at h k) (λ n. before)
    (λ e q t.
    let r = reply_of h k e u x t q (own_at h u k shape there) in
    items_step (IsFrom h u) (IsFrom h u) k x e (λ item f. f)
    (λ item f. released_cases (IsFrom h u) _ item (λ e. f) (λ e. record { taken = record { event = f.taken.event; reply = f.taken.reply } }))
    (λ unit caller a queued s stalled taken. record { taken = new_from h u k x e unit caller a q t s r taken }) before)

-- ---- MDSTALL's bit 0 is free for the answer

even_step : (k : ℕ) (x : UnitState) (e : Event) → bit_at (reg x.registers Mdstall) 0 ≡ 0
    → bit_at (reg (unit_step k x e).0.registers Mdstall) 0 ≡ 0
even_step k x (RegWrite unit caller index value) h = written_even x.registers index value _ h
even_step k x (RegRead unit caller index) h = h
even_step k x (Submit unit caller a) h =
    submit_cases (λ r. bit_at (reg r.0.registers Mdstall) 0 ≡ 0) k x caller a (λ e. h) (λ e f. h) (λ d. recorded_even x.registers a d h) h
even_step k x (Judge unit caller place) h =
    judge_cases (λ r. bit_at (reg r.0.registers Mdstall) 0 ≡ 0) x place caller (λ e. h) (λ item e f. h) (λ item e f v. h)
    (λ item e f d v. recorded_even x.registers item.access d h)
even_step k x _ h = h

own_even : (h : History) (u : ℕ) (shape : Shape) (k : ℕ) → bit_at (reg (own_state h u shape k).registers Mdstall) 0 ≡ 0
own_even h u shape k =
    own_induction (λ k x. bit_at (reg x.registers Mdstall) 0 ≡ 0) h u shape (reset_even shape) (λ k x s. s) (λ k x e q t s. even_step k x e s) k

odd_one : (w : ℕ) (busy : Bool) → bit_at w 0 ≡ 0 → has_bit (w + count_of_bool busy) 0 ≡ false → busy ≡ false
odd_one w true e f =
    let one : bit_at (w + 1) 0 ≡ 1 = omega arith in
    absurd (false≢true (sym f ∙ ap (λ n. eqb n 1) one))
odd_one w false e f = refl

-- ---- in a window

-- the requester's open submission is queued
abbrev IsHeldOf : ℕ → Submission → Type 0
IsHeldOf s item = item.access.rrid ≡ s → item.queued ≡ true

idle_held : (flags : List Bool) (s : ℕ) (items : List Submission) → flag_of flags s ≡ true → list_any (is_draining flags) items ≡ false
    → AllByRecursion (IsHeldOf s) items
idle_held flags s [] f e = tt
idle_held flags s (item ∷ items) f e =
    let parts = or_parts (is_draining flags item) (list_any (is_draining flags) items) e in
    (λ q. waits item.queued (flag_of flags item.access.rrid) parts.0 (subst (λ r. flag_of flags r ≡ true) (sym q) f), idle_held flags s items f parts.1)
  where
    waits : (queued flag : Bool) → (not queued && flag) ≡ false → flag ≡ true → queued ≡ true
    waits true flag e f = refl
    waits false flag e f = absurd (false≢true (sym e ∙ f))

held_step : (s k : ℕ) (x : UnitState) (e : Event) → is_stalled x s ≡ true → is_stalled (unit_step k x e).0 s ≡ true
    → AllByRecursion (IsHeldOf s) x.submissions → AllByRecursion (IsHeldOf s) (unit_step k x e).0.submissions
held_step s k x e f g h =
    items_step (IsHeldOf s) (IsHeldOf s) k x e (λ item p. p)
    (λ item p. released_cases (IsHeldOf s) (unit_step k x e).0.flags item (λ t. p)
    (λ t q. absurd (false≢true (sym t ∙ subst (λ r. flag_of (unit_step k x e).0.flags r ≡ true) (sym q) g))))
    (λ unit caller a queued t stalled taken q. sym stalled ∙ subst (λ r. is_stalled x r ≡ true) (sym q) f) h

flagged_shape : (h : History) (u s k : ℕ) → is_flagged (state_at h k u) s ≡ true → (shape : Shape) × (slice_get h.shapes u ≡ Some shape)
flagged_shape h u s k e = there (slice_get h.shapes u) refl (subst (λ o. is_flagged o s ≡ true) (own h u k) e)
  where
    there : (o : Option Shape) → slice_get h.shapes u ≡ o → is_flagged (option_map (λ shape. own_state h u shape k) o) s ≡ true
        → (shape : Shape) × (slice_get h.shapes u ≡ Some shape)
    there None q e = absurd (false≢true e)
    there (Some shape) q e = (shape, q)

held_at : (h : History) (u s b p : ℕ) (shape : Shape) → slice_get h.shapes u ≡ Some shape → IsInDrainedWindow h u s b p
    → ((k : ℕ) → b ≤ k → k ≤ p → is_stalled (own_state h u shape k) s ≡ true)
    → (k : ℕ) → b ≤ k → k ≤ p → AllByRecursion (IsHeldOf s) (own_state h u shape k).submissions
held_at h u s b p shape q w f k = from k (cases_eq b k)
  where
    start : AllByRecursion (IsHeldOf s) (own_state h u shape b).submissions
    start =
        let x = own_state h u shape b in
        let r = reply_is h b (RegRead u w.caller (index_of Mdstall)) u (replies.Value w.value) x refl (as_it_is h b (RegRead u w.caller (index_of Mdstall)) refl w.event) w.reply (own_at h u b shape q) in
        let value : read_value x (index_of Mdstall) ≡ w.value = cc in
        idle_held x.flags s x.submissions (f b (omega arith) (omega (arith, w.later)))
        (odd_one (reg x.registers Mdstall) (is_busy x) (own_even h u shape b) (subst (λ n. has_bit n 0 ≡ false) (sym value) w.idle))

    from : (k : ℕ) → (b ≡ k) ⊎ (b ≡ k → ⊥) → b ≤ k → k ≤ p → AllByRecursion (IsHeldOf s) (own_state h u shape k).submissions
    from k (inl e) l m = subst (λ j. AllByRecursion (IsHeldOf s) (own_state h u shape j).submissions) e start
    from zero (inr ne) l m = absurd (ne (omega arith))
    from (suc k) (inr ne) l m =
        let below : b ≤ k = omega arith in
        own_next (λ x. is_stalled x s ≡ true → AllByRecursion (IsHeldOf s) x.submissions) k u (own_state h u shape k) (taken_at h k)
        (λ n g. from k (cases_eq b k) below (omega arith))
        (λ e o t g. held_step s k (own_state h u shape k) e (f k below (omega arith)) g (from k (cases_eq b k) below (omega arith)))
        (f (suc k) l m)

pub law_windows : LawWindows
law_windows h u s b p w v =
    let there = flagged_shape h u s b (w.flagged b (omega arith) (omega (arith, w.later))) in
    let shape = there.0 in
    let x = own_state h u shape p in
    let f = λ (k : ℕ) (l : b ≤ k) (m : k ≤ p). subst (λ o. is_flagged o s ≡ true) (own_at h u k shape there.1) (w.flagged k l m) in
    let held = held_at h u s b p shape there.1 w f p (omega (arith, w.later)) (omega arith) in
    let r = reply_is h p (Judge u v.caller v.place) u (replies.Verdict v.verdict) x refl (as_it_is h p (Judge u v.caller v.place) refl v.event) v.reply (own_at h u p shape there.1) in
    let found = judged x v.place v.caller v.verdict r in
    let a = all_found (IsHeldOf s) (is_item v.place v.caller) x.submissions found.0 found.1 held in
    let c = all_found (IsFrom h u) (is_item v.place v.caller) x.submissions found.0 found.1 (own_from h u shape there.1 p) in
    let place = eqb-true found.0.place v.place (and_parts (eqb found.0.place v.place) _ a.1).0 in
    let same = sym (subst (λ n. taken_at h n ≡ Some (Submit u found.0.caller found.0.access)) place (submit_of h _ u _ _ c.0.taken.event)) ∙ submit_of h v.place u v.caller v.access v.submission in
    let access : found.0.access ≡ v.access = cc in
    false≢true (sym found.2 ∙ a.0 (ap (λ (z : Access). z.rrid) access ∙ v.requester))
