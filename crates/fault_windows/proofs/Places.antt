-- What stands before a place, one place on: the windows that were shown, the turn, and who is pending.
use Rattle.std.proofs.Common.{◌≡◌, ℕ, suc, zero, ◌+◌, ◌-◌, ◌<◌, ◌≤◌, ◌%◌, Bool, true, not, ◌&&◌, ◌||◌, List, [], ◌∷◌, ◌++◌, Option, Some, None, length, get_or, arith, refl, sym, ap, ◌∙◌, subst, ⊎_elim}
use Rattle.std.specs.Prelude.{nat_eq}
use Rattle.std.specs.Option.{option_eq}
use Rattle.std.proofs.lemmas.Bool.{false≢true, cases_lt, or_cases, or_left, or_right, and_parts, and_from, not-true, not_from_false, both_ways, false_from_ne_true, eqb-true, eq-eqb}
use Rattle.std.proofs.lemmas.List.{length_push, get_or_push, get_or_append_left}
use Rattle.unit_core.specs.Histories.{History}
use Rattle.fault_windows.specs.LateViolations.{is_late}
use Rattle.fault_windows.specs.Windows.{window_of, showed, showed_after, turn_after, is_unshown, is_pending, shown_before, turn_at, window_at}
use Rattle.fault_windows.specs.Laws.{HasLateViolation}
use Rattle.fault_windows.proofs.Tests.{same_bools, any_range, any_at}

-- ---- the list of what was shown

pub length_shown : (h : History) (u k : ℕ) → length (shown_before h u k) ≡ k
length_shown h u zero = refl
length_shown h u (suc k) =
    let e = length_push (shown_before h u k) (window_at h u k) in
    let i = length_shown h u k in
    omega arith

pub shown_is : (h : History) (u k i : ℕ) → i < k → get_or (shown_before h u k) i None ≡ window_at h u i
shown_is h u zero i l = absurd (omega arith)
shown_is h u (suc k) i l = ⊎_elim
    (λ (below : i < k). get_or_append_left (shown_before h u k) (window_at h u k ∷ []) None i (omega (arith, length_shown h u k)) ∙ shown_is h u k i below)
    (λ (past : k ≤ i). let e : i ≡ k = omega arith in
    get_or_push (shown_before h u k) (window_at h u k) None i (length_shown h u k ∙ sym e) ∙ ap (window_at h u) (sym e))
    (cases_lt i k)

pub some_same : (o : Option ℕ) (w : ℕ) → option_eq nat_eq o (Some w) ≡ true → o ≡ Some w
some_same None w e = absurd (false≢true e)
some_same (Some x) w e = ap (λ n. Some n) (eqb-true x w e)

pub same_some : (o : Option ℕ) (w : ℕ) → o ≡ Some w → option_eq nat_eq o (Some w) ≡ true
same_some o w e = subst (λ q. option_eq nat_eq q (Some w) ≡ true) (sym e) (eq-eqb w w refl)

-- ---- who is pending

pub pending_to : (h : History) (u s k : ℕ) → is_pending h u (shown_before h u k) k s ≡ true → HasLateViolation h u s k
pending_to h u s k e =
    let r = any_range (is_unshown h u (shown_before h u k) k s) 0 k e in
    let p = and_parts (is_late h u s r.0) (not (showed_after (shown_before h u k) (window_of s) r.0 k)) r.3 in
    record {
      place = r.0;
      late = p.0;
      before = omega arith;
      unshown = λ i after below shows. both_ways _ (not-true _ p.1)
          (any_at (showed (shown_before h u k) (window_of s)) (r.0 + 1) (k - (r.0 + 1)) i (omega arith) (omega arith)
          (same_some _ (window_of s) (shown_is h u k i below ∙ shows)));
    }

pub pending_from : (h : History) (u s k : ℕ) → HasLateViolation h u s k → is_pending h u (shown_before h u k) k s ≡ true
pending_from h u s k v =
    any_at (is_unshown h u (shown_before h u k) k s) 0 k v.place (omega arith) (omega (arith, v.before))
    (and_from _ _ v.late (not_from_false _ (false_from_ne_true _ (λ t.
    let r = any_range (showed (shown_before h u k) (window_of s)) (v.place + 1) (k - (v.place + 1)) t in
    let b : v.place < k = v.before in
    let below : r.0 < k = omega arith in
    v.unshown r.0 (omega arith) below (sym (shown_is h u k r.0 below) ∙ some_same _ (window_of s) r.3)))))

-- A violation that comes now is late, or one was pending whose window isn't shown now.
pub pending_next : (h : History) (u s k : ℕ)
    → is_pending h u (shown_before h u (suc k)) (suc k) s ≡ (is_late h u s k || (is_pending h u (shown_before h u k) k s && not (option_eq nat_eq (window_at h u k) (Some (window_of s)))))
pending_next h u s k = same_bools _ _ to from
  where
    now : Bool
    now = is_pending h u (shown_before h u (suc k)) (suc k) s

    late : Bool
    late = is_late h u s k

    kept : Bool
    kept = is_pending h u (shown_before h u k) k s && not (option_eq nat_eq (window_at h u k) (Some (window_of s)))

    to : now ≡ true → (late || kept) ≡ true
    to t = let v = pending_to h u s (suc k) t in ⊎_elim
        (λ (below : v.place < k). or_right late kept (and_from _ _
        (pending_from h u s k (record { place = v.place; late = v.late; before = below; unshown = λ i after m shows. v.unshown i after (omega arith) shows }))
        (not_from_false _ (false_from_ne_true _ (λ shows. v.unshown k below (omega arith) (some_same _ (window_of s) shows))))))
        (λ (past : k ≤ v.place). let b : v.place < suc k = v.before in
        let e : v.place ≡ k = omega arith in
        or_left late kept (subst (λ j. is_late h u s j ≡ true) e v.late))
        (cases_lt v.place k)

    from : (late || kept) ≡ true → now ≡ true
    from t = ⊎_elim
        (λ (l : late ≡ true). pending_from h u s (suc k) (record { place = k; late = l; before = omega arith; unshown = λ i after below shows. absurd (omega arith) }))
        (λ (was : kept ≡ true).
        let p = and_parts (is_pending h u (shown_before h u k) k s) _ was in
        let v = pending_to h u s k p.0 in
        let b : v.place < k = v.before in
        pending_from h u s (suc k) (record {
          place = v.place;
          late = v.late;
          before = omega arith;
          unshown = λ i after below shows. ⊎_elim
              (λ (m : i < k). v.unshown i after m shows)
              (λ (m : k ≤ i). let e : i ≡ k = omega arith in
              both_ways _ (not-true _ p.1) (same_some _ (window_of s) (ap (window_at h u) (sym e) ∙ shows)))
              (cases_lt i k);
        }))
        (or_cases late kept t)

-- ---- where the turn begins

-- the turn after a place that showed this
abbrev pub after_shown : ℕ → Option ℕ → ℕ
after_shown t None = t
after_shown t (Some w) = (w + 1) % 4

turn_push : (t : ℕ) (xs : List (Option ℕ)) (o : Option ℕ) → turn_after t (xs ++ o ∷ []) ≡ after_shown (turn_after t xs) o
turn_push t [] None = refl
turn_push t [] (Some w) = refl
turn_push t (None ∷ xs) o = turn_push t xs o
turn_push t (Some w ∷ xs) o = turn_push ((w + 1) % 4) xs o

pub turn_next : (h : History) (u k : ℕ) → turn_at h u (suc k) ≡ after_shown (turn_at h u k) (window_at h u k)
turn_next h u k = turn_push 0 (shown_before h u k) (window_at h u k)

after_below : (t : ℕ) (o : Option ℕ) → t < 4 → after_shown t o < 4
after_below t None l = l
after_below t (Some w) l = omega arith

pub turn_below : (h : History) (u k : ℕ) → turn_at h u k < 4
turn_below h u zero = omega arith
turn_below h u (suc k) =
    subst (λ t. t < 4) (sym (turn_next h u k)) (after_below (turn_at h u k) (window_at h u k) (turn_below h u k))
