-- The law of late violations, from the definitions alone.
use Rattle.std.proofs.Common.{◌≡◌, ◌⊎◌, ℕ, suc, zero, ◌+◌, ◌-◌, ◌*◌, ◌/◌, ◌%◌, ◌<◌, ◌≤◌, Bool, true, false, eqb, List, [], ◌∷◌, Option, Some, None, find, arith, refl, sym, ap, ◌∙◌, subst, ⊎_elim, inl, inr}
use Rattle.std.specs.Prelude.{All, IsSomeAnd, IfSome, option_map, option_and_then}
use Rattle.std.specs.List.{list_any}
use Rattle.std.proofs.lemmas.Bool.{false≢true, both_ways, and_parts, cases_eq, cases_lt, eqb-true, eq-eqb, cond-true, cond-false}
use Rattle.std.proofs.lemmas.Option.{none-some, same_Some, get_or_from_slice_get, slice_get_within}
use Rattle.std.proofs.lemmas.List.Folds.{Any-from_list_any, list_any_at}
use Rattle.event_words.specs.declared.event.Event.{Event}
use Rattle.event_words.specs.declared.event.Event.TheVariants.{RegWrite, RegRead, Submit, Judge, Aim, Wide}
use Rattle.event_words.specs.declared.reply.Reply.{Reply}
use Rattle.event_words.specs.Registers.{has_bit}
use Rattle.event_words.specs.Valid.{IsValidAccess, IsValidEvent}
use Rattle.event_words.proofs.Cases.{by_test}
use Rattle.unit_core.specs.Submissions.{SubmittedAccess, submitted}
use Rattle.unit_core.specs.Units.{taken_as}
use Rattle.unit_core.specs.Histories.{History, aims_at, event_at, reply_at}
use Rattle.unit_core.specs.Submitted.{taken_at}
use Rattle.unit_core.proofs.TakenEvents.{taken_valid, SubmitsValid}
use Rattle.fault_windows.specs.LateViolations.{requester_in, requester_of, is_late_by, is_late}
use Rattle.fault_windows.specs.Windows.{is_reading, window_of, is_in_window, window_bits, next_window, is_pending, pending_after, shown_before, pending_at, turn_at, window_at}
use Rattle.fault_windows.specs.Laws.{HasBitOf, ShowsRequester, IsNextReading, IsUnshownBetween, HasLateViolation, LawFaults}
use Rattle.fault_windows.proofs.Tests.{passes, passing}
use Rattle.fault_windows.proofs.Bits.{window_has}
use Rattle.fault_windows.proofs.Places.{some_same, pending_to, pending_from, after_shown, turn_next, turn_below}
use Rattle.fault_windows.proofs.Idle.{window_none}

-- ---- a requester of a late violation is one of 64

valid_at : (h : History) (k : ℕ) (e : Event) → All IsValidEvent h.events → event_at h k ≡ Some e → IsValidEvent e
valid_at h k e all q = subst IsValidEvent (get_or_from_slice_get h.events k e e q) (all k e (slice_get_within h.events k e q))

taken_valid_at : (h : History) (k : ℕ) (e : Event) → All IsValidEvent h.events → taken_at h k ≡ Some e → SubmitsValid e
taken_valid_at h k e all = by_event (event_at h k) refl
  where
    by_event : (o : Option Event) → event_at h k ≡ o → option_and_then (taken_as (aims_at h k)) o ≡ Some e → SubmitsValid e
    by_event None p q = absurd (let n : None ≡ Some e = q in cc)
    by_event (Some d) p q = taken_valid (aims_at h k) d e (valid_at h k d all p) q

submitted_small : (o : Option SubmittedAccess) (s : ℕ) → IfSome o (λ x. IsValidAccess x.access) → requester_in o ≡ Some s → s < 64
submitted_small None s v q = absurd (none-some s q)
submitted_small (Some x) s v q = let e : x.access.rrid ≡ s = same_Some x.access.rrid s q in omega (arith, v.rrid)

submission_small : (h : History) (place s : ℕ) (o : Option Event) → ((e : Event) → o ≡ Some e → SubmitsValid e) → requester_in (option_and_then submitted o) ≡ Some s → s < 64
submission_small h place s None v q = absurd (none-some s q)
submission_small h place s (Some e) v q = submitted_small (submitted e) s (v e refl) q

requester_small : (h : History) (s : ℕ) (e : Event) → All IsValidEvent h.events → SubmitsValid e → requester_of h e ≡ Some s → s < 64
requester_small h s (RegWrite unit caller index value) all v q = absurd (none-some s q)
requester_small h s (RegRead unit caller index) all v q = absurd (none-some s q)
requester_small h s (Submit unit caller access) all v q = submitted_small (submitted (Submit unit caller access)) s v q
requester_small h s (Judge unit caller place) all v q = submission_small h place s (taken_at h place) (λ e. taken_valid_at h place e all) q
requester_small h s (Aim caller addr) all v q = absurd (none-some s q)
requester_small h s (Wide unit caller rrid kind len) all v q = absurd (none-some s q)

late_small : (h : History) (u s k : ℕ) → All IsValidEvent h.events → is_late h u s k ≡ true → s < 64
late_small h u s k all = by_event (taken_at h k) (reply_at h k) refl
  where
    by_event : (o : Option Event) (r : Option Reply) → taken_at h k ≡ o → is_late_by h u s k o r ≡ true → s < 64
    by_event None r q t = absurd (false≢true t)
    by_event (Some e) None q t = absurd (false≢true t)
    by_event (Some e) (Some r) q t =
        requester_small h s e all (taken_valid_at h k e all q) (some_same (requester_of h e) s (and_parts _ _ (and_parts _ _ t).1).0)

-- ---- pending requesters as the list has them

pending_has : (h : History) (u s k : ℕ) → s < 64 → HasLateViolation h u s k → list_any (λ x. eqb x s) (pending_at h u k) ≡ true
unfolding pending_after
pending_has h u s k l v = passes (is_pending h u (shown_before h u k) k) 64 s l ∙ pending_from h u s k v

pending_of : (h : History) (u s k : ℕ) → list_any (λ x. eqb x s) (pending_at h u k) ≡ true → HasLateViolation h u s k
unfolding pending_after
pending_of h u s k e = pending_to h u s k (passing (is_pending h u (shown_before h u k) k) 64 s e)

whole : (s : ℕ) → 16 * (s / 16) + s % 16 ≡ s
whole s = omega arith

bit_of : (pending : List ℕ) (s : ℕ) → has_bit (window_bits pending (window_of s)) (s % 16) ≡ list_any (λ x. eqb x s) pending
bit_of pending s =
    window_has pending (s / 16) (s % 16) (omega arith) ∙ ap (λ n. list_any (λ x. eqb x n) pending) (whole s)

shows : (h : History) (u s k : ℕ) → s < 64 → HasLateViolation h u s k → window_at h u k ≡ Some (window_of s) → ShowsRequester h u s k
shows h u s k l v e =
    let b : has_bit (window_bits (pending_at h u k) (window_of s)) (s % 16) ≡ true = bit_of (pending_at h u k) s ∙ pending_has h u s k l v in
    subst (λ (o : Option ℕ). IsSomeAnd (option_map (λ w. record { unit = u; window = w; bits = window_bits (pending_at h u k) w }) o) (HasBitOf s)) (sym e) (refl, b)

-- ---- the three parts

caused : (h : History) (u s k : ℕ) → ShowsRequester h u s k → HasLateViolation h u s k
caused h u s k = by_window (window_at h u k)
  where
    by_window : (o : Option ℕ) → IsSomeAnd (option_map (λ w. record { unit = u; window = w; bits = window_bits (pending_at h u k) w }) o) (HasBitOf s) → HasLateViolation h u s k
    by_window None t = absurd t
    by_window (Some w) t =
        pending_of h u s k (sym (bit_of (pending_at h u k) s) ∙ subst (λ v. has_bit (window_bits (pending_at h u k) v) (s % 16) ≡ true) t.0 t.1)

none_lost : (h : History) → All IsValidEvent h.events → (u s j k : ℕ) → is_late h u s j ≡ true → j < k → IsUnshownBetween h u s j k
    → window_at h u k ≡ Some (window_of s) → ShowsRequester h u s k
none_lost h all u s j k late before unshown e =
    shows h u s k (late_small h u s j all late) (record { place = j; late = late; before = before; unshown = unshown }) e

-- ---- how many windows in turn stand before one

abbrev ahead : ℕ → ℕ → ℕ
ahead t v = (v + 4 - t) % 4

differs : (p : ℕ → Bool) (x v : ℕ) → p x ≡ false → p v ≡ true → x ≡ v → ⊥
differs p x v f t e = both_ways (p v) (subst (λ n. p n ≡ false) e f) t

abbrev FoundBy : (ℕ → Bool) → ℕ → ℕ → Option ℕ → Type 0
FoundBy p t v o = (w : ℕ) × (o ≡ Some w) × ((w ≡ v) ⊎ (ahead ((w + 1) % 4) v < ahead t v))

near_0 : (t v : ℕ) → t < 4 → v < 4 → (t ≡ v) ⊎ (ahead ((t + 1) % 4) v < ahead t v)
near_0 t v l m = ⊎_elim (λ (e : t ≡ v). inl e) (λ (e : t ≡ v → ⊥). inr (omega arith)) (cases_eq t v)

near_1 : (t v : ℕ) → t < 4 → v < 4 → (t ≡ v → ⊥) → ((t + 1) % 4 ≡ v) ⊎ (ahead (((t + 1) % 4 + 1) % 4) v < ahead t v)
near_1 t v l m a = ⊎_elim (λ (e : (t + 1) % 4 ≡ v). inl e) (λ (e : (t + 1) % 4 ≡ v → ⊥). inr (omega arith)) (cases_eq ((t + 1) % 4) v)

near_2 : (t v : ℕ) → t < 4 → v < 4 → (t ≡ v → ⊥) → ((t + 1) % 4 ≡ v → ⊥) → ((t + 2) % 4 ≡ v) ⊎ (ahead (((t + 2) % 4 + 1) % 4) v < ahead t v)
near_2 t v l m a b = ⊎_elim (λ (e : (t + 2) % 4 ≡ v). inl e) (λ (e : (t + 2) % 4 ≡ v → ⊥). inr (omega arith)) (cases_eq ((t + 2) % 4) v)

-- A window that has a requester is found, or one that stands before it in turn.
find_first : (p : ℕ → Bool) (t v : ℕ) → t < 4 → v < 4 → p v ≡ true → FoundBy p t v (find p (t ∷ (t + 1) % 4 ∷ (t + 2) % 4 ∷ (t + 3) % 4 ∷ []))
find_first p t v l m pv = by_test (p t) _
    (λ e0. (t, rw e0 refl, near_0 t v l m))
    (λ e0. by_test (p ((t + 1) % 4)) _
    (λ e1. ((t + 1) % 4, rw (e0, e1) refl, near_1 t v l m (differs p t v e0 pv)))
    (λ e1. by_test (p ((t + 2) % 4)) _
    (λ e2. ((t + 2) % 4, rw (e0, e1, e2) refl, near_2 t v l m (differs p t v e0 pv) (differs p _ v e1 pv)))
    (λ e2. let d0 = differs p t v e0 pv in
    let d1 = differs p ((t + 1) % 4) v e1 pv in
    let d2 = differs p ((t + 2) % 4) v e2 pv in
    let last : (t + 3) % 4 ≡ v = omega arith in
    let e3 : p ((t + 3) % 4) ≡ true = subst (λ n. p n ≡ true) (sym last) pv in
    ((t + 3) % 4, rw (e0, e1, e2, e3) refl, inl last))))

in_window : (s : ℕ) (xs : List ℕ) → list_any (λ x. eqb x s) xs ≡ true → list_any (is_in_window (window_of s)) xs ≡ true
in_window s xs e =
    let a = Any-from_list_any (λ x. eqb x s) xs e in
    let q : a.1 ≡ s = eqb-true a.1 s a.4 in
    list_any_at (is_in_window (window_of s)) xs a.0 a.1 a.2 (eq-eqb _ _ (ap (λ n. n / 16) (a.3 ∙ q)))

-- ---- one reading, and what stands between two

-- s is pending after place k, and fewer than n windows stand before its window
abbrev IsLeft : History → ℕ → ℕ → ℕ → ℕ → Type 0
IsLeft h u s k n = HasLateViolation h u s (suc k) × (ahead (turn_at h u (suc k)) (window_of s) < n)

read_once : (h : History) (u s k n : ℕ) → s < 64 → is_reading h u k ≡ true → HasLateViolation h u s k → ahead (turn_at h u k) (window_of s) < suc n → ShowsRequester h u s k ⊎ IsLeft h u s k n
read_once h u s k n l reading v near =
    let below : s / 16 < 4 = omega arith in
    let has : list_any (is_in_window (window_of s)) (pending_at h u k) ≡ true = in_window s (pending_at h u k) (pending_has h u s k l v) in
    let r = find_first (λ w. list_any (is_in_window w) (pending_at h u k)) (turn_at h u k) (window_of s) (turn_below h u k) below has in
    let e : window_at h u k ≡ Some r.0 = cond-true (is_reading h u k) (next_window (turn_at h u k) (pending_at h u k)) None reading ∙ r.1 in
    let turned : turn_at h u (suc k) ≡ (r.0 + 1) % 4 = turn_next h u k ∙ ap (after_shown (turn_at h u k)) e in
    ⊎_elim
    (λ (same : r.0 ≡ window_of s). inl (shows h u s k l v (e ∙ ap (λ w. Some w) same)))
    (λ (other : r.0 ≡ window_of s → ⊥). inr (
      record {
        place = v.place;
        late = v.late;
        before = let b : v.place < k = v.before in omega arith;
        unshown = λ i after m at. ⊎_elim
            (λ (c : i < k). v.unshown i after c at)
            (λ (c : k ≤ i). let d : i ≡ k = omega arith in
            other (same_Some r.0 (window_of s) (sym e ∙ (ap (window_at h u) (sym d) ∙ at))))
            (cases_lt i k);
      },
      ⊎_elim
          (λ (same : r.0 ≡ window_of s). absurd (other same))
          (λ (less : ahead ((r.0 + 1) % 4) (window_of s) < ahead (turn_at h u k) (window_of s)).
          subst (λ t. ahead t (window_of s) < n) (sym turned) (omega arith))
          r.2,
    ))
    (cases_eq r.0 (window_of s))

turn_idle : (h : History) (u k m : ℕ) → ((i : ℕ) → k ≤ i → i < k + m → is_reading h u i ≡ false) → turn_at h u (k + m) ≡ turn_at h u k
turn_idle h u k zero idle = let e : k + 0 ≡ k = omega arith in ap (turn_at h u) e
turn_idle h u k (suc m) idle =
    let e : k + suc m ≡ suc (k + m) = omega arith in
    ap (turn_at h u) e ∙ (turn_next h u (k + m) ∙ (ap (after_shown (turn_at h u (k + m))) (window_none h u (k + m) (idle (k + m) (omega arith) (omega arith)))
    ∙ turn_idle h u k m (λ i a b. idle i a (omega arith))))

next_read : (h : History) (u s k r n : ℕ) → s < 64 → IsNextReading h u k r → IsLeft h u s k (suc n) → ShowsRequester h u s r ⊎ IsLeft h u s r n
next_read h u s k r n l next left =
    let v = left.0 in
    let later : k < r = next.later in
    let b : v.place < suc k = v.before in
    let e : suc k + (r - suc k) ≡ r = omega arith in
    let t : turn_at h u r ≡ turn_at h u (suc k) = ap (turn_at h u) (sym e) ∙ turn_idle h u (suc k) (r - suc k) (λ i a c. next.none_between i (omega arith) (omega arith)) in
    read_once h u s r n l next.reading
    (record {
      place = v.place;
      late = v.late;
      before = omega arith;
      unshown = λ i after m at. ⊎_elim
          (λ (c : i < suc k). v.unshown i after c at)
          (λ (c : suc k ≤ i). none-some (window_of s) (sym (window_none h u i (next.none_between i (omega arith) m)) ∙ at))
          (cases_lt i (suc k));
    })
    (subst (λ x. ahead x (window_of s) < suc n) (sym t) left.1)

shown_soon : (h : History) → All IsValidEvent h.events → (u s k a b c d : ℕ) → is_late h u s k ≡ true
    → IsNextReading h u k a → IsNextReading h u a b → IsNextReading h u b c → IsNextReading h u c d
    → ShowsRequester h u s a ⊎ ShowsRequester h u s b ⊎ ShowsRequester h u s c ⊎ ShowsRequester h u s d
shown_soon h all u s k a b c d late to_a to_b to_c to_d =
    let l = late_small h u s k all late in
    let first : IsLeft h u s k 4 = (record { place = k; late = late; before = omega arith; unshown = λ i x y at. absurd (omega arith) }, omega arith) in
    ⊎_elim (λ (x : ShowsRequester h u s a). inl x) (λ (at_a : IsLeft h u s a 3).
    ⊎_elim (λ (x : ShowsRequester h u s b). inr (inl x)) (λ (at_b : IsLeft h u s b 2).
    ⊎_elim (λ (x : ShowsRequester h u s c). inr (inr (inl x))) (λ (at_c : IsLeft h u s c 1).
    ⊎_elim (λ (x : ShowsRequester h u s d). inr (inr (inr x))) (λ (at_d : IsLeft h u s d 0). absurd (let z = at_d.1 in omega arith))
    (next_read h u s c d 0 l to_d at_c)) (next_read h u s b c 1 l to_c at_b)) (next_read h u s a b 2 l to_b at_a)) (next_read h u s k a 3 l to_a first)

pub law_faults : LawFaults
law_faults h shapes events = record {
  shown_soon = shown_soon h events;
  caused = caused h;
  none_lost = none_lost h events;
}
