-- The lanes of a set that a walk over all lanes has still before it.
use Rattle.std.proofs.Common.{◌≡◌, ℕ, suc, zero, ◌+◌, ◌-◌, ◌<◌, Bool, true, false, List, [], ◌∷◌, slice_get, filter, arith, refl, ap, ◌∙◌}
use Rattle.std.specs.List.{range_with_len}
use Rattle.lane_turns.specs.declared.lanes.LaneSet.{LaneSet}
use Rattle.lane_turns.specs.Lanes.{has, members_from}

range_step : (i n : ℕ) → i < n → range_with_len i (n - i) ≡ i ∷ range_with_len (i + 1) (n - (i + 1))
range_step i n h =
    let e : n - i ≡ suc (n - (i + 1)) = omega arith in ap (range_with_len i) e

here : (p : ℕ → Bool) (i n : ℕ) → i < n → p i ≡ true → filter p (range_with_len i (n - i)) ≡ i ∷ filter p (range_with_len (i + 1) (n - (i + 1)))
here p i n h t = ap (filter p) (range_step i n h) ∙ rw t refl

past : (p : ℕ → Bool) (i n : ℕ) → i < n → p i ≡ false → filter p (range_with_len i (n - i)) ≡ filter p (range_with_len (i + 1) (n - (i + 1)))
past p i n h f = ap (filter p) (range_step i n h) ∙ rw f refl

pub member_here : (lanes : LaneSet) (i : ℕ) → i < 17 → has lanes i ≡ true → members_from lanes i ≡ i ∷ members_from lanes (i + 1)
unfolding members_from
member_here lanes i h t = here (has lanes) i 17 h t

pub member_past : (lanes : LaneSet) (i : ℕ) → i < 17 → has lanes i ≡ false → members_from lanes i ≡ members_from lanes (i + 1)
unfolding members_from
member_past lanes i h f = past (has lanes) i 17 h f

pub members_end : (lanes : LaneSet) (i : ℕ) → i ≡ 17 → members_from lanes i ≡ []
unfolding members_from
members_end lanes i e = rw e refl

pub get_next : (x : ℕ) (xs : List ℕ) (i : ℕ) → 0 < i → slice_get (x ∷ xs) i ≡ slice_get xs (i - 1)
get_next x xs zero h = absurd (omega arith)
get_next x xs (suc i) h = let e : i ≡ suc i - 1 = omega arith in ap (slice_get xs) e
