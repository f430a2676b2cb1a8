-- What a word does to a fabric, for which a place was added to what is kept.
use Rattle.std.proofs.Common.{◌≡◌, ℕ, ◌+◌, ◌<◌, ◌++◌, List, [], ◌∷◌, length, length-append, take, arith, sym, ap, ◌∙◌, subst}
use Rattle.std.proofs.Math.Seq.{take-append_seam}
use Rattle.unit_core.specs.declared.parts.IopmpUnit.{IopmpUnit}
use Rattle.unit_core.specs.declared.kept.Kept.{Kept}
use Rattle.unit_core.specs.Units.{UnitState, FabricState, word_step}
use Rattle.unit_core.specs.Places.{nothing_kept, MayStep, states_of}
use Rattle.unit_core.specs.KeptWords.{KeptView, HasRoom}
use Rattle.unit_core.specs.Fabrics.{FabricView, IsWhole, fabric_view}
use Rattle.unit_core.proofs.Keeping.{all_kept_pushed}
use Rattle.unit_core.proofs.Rooms.{blank_pushed}
use Rattle.unit_core.proofs.States.{states_pushed, tied_pushed}

pub refilled : {X : Type 0} (n : ℕ) (xs ys : List X) → length xs ≡ n → take n (xs ++ ys) ≡ xs
refilled n xs ys e = subst (λ k. take k (xs ++ ys) ≡ xs) e (take-append_seam xs ys)

abbrev pub both : List UnitState → List ℕ → FabricState
both us aims = record { units = us; aims = aims }

-- What is kept has one place more, of which nothing is kept.
pub record HasOneMore (kept more : KeptView) : Type 0 where
  pub items : more.items ≡ kept.items ++ nothing_kept ∷ []
  pub places : more.places ≡ kept.places
  pub wides : more.wides ≡ kept.wides

-- A step at the place that was added can begin.
pub may_step : (p : ℕ) (units us : List IopmpUnit) (kept more : KeptView) → IsWhole units kept → p ≡ length kept.items → p < kept.places → us ≡ units → HasOneMore kept more → MayStep p us more.items
may_step p units us kept more h e l same_units add =
    let n : length more.items ≡ length kept.items + 1 = ap length add.items ∙ length-append kept.items (nothing_kept ∷ []) in
    record {
      agrees = rw (same_units, add.items) (tied_pushed 0 units kept.items h.agrees);
      all_valid = rw add.items (all_kept_pushed kept.items h.valid);
      room = omega (arith, n, e);
      few = omega (arith, n, e, l, h.places);
      blank = rw (add.items, e) (blank_pushed kept.items);
    }

pub has_room : (p : ℕ) (units : List IopmpUnit) (kept more : KeptView) → IsWhole units kept → p ≡ length kept.items → p < kept.places → HasOneMore kept more → HasRoom p more
has_room p units kept more h e l add =
    let n : length more.items ≡ length kept.items + 1 = ap length add.items ∙ length-append kept.items (nothing_kept ∷ []) in
    record { wides = omega (arith, add.wides, h.wides, e); places = omega (arith, n, e, l, add.places); few = omega (arith, add.places, h.places) }

-- the state that a fabric is seen in
viewed : (units : List IopmpUnit) (aims : List ℕ) (kept : KeptView) (v : FabricView) → fabric_view units aims kept ≡ v → v.state ≡ both (states_of 0 units kept.items) aims
viewed units aims kept v e = ap (λ (f : FabricView). f.state) (sym e)

-- the state in which a step finds the units and what is kept
pub found : (units us : List IopmpUnit) (aims : List ℕ) (kept more : KeptView) (v : FabricView) → fabric_view units aims kept ≡ v → us ≡ units → HasOneMore kept more → both (states_of 0 us more.items) aims ≡ v.state
found units us aims kept more v e same_units add =
    ap (λ x. both x aims) (rw (same_units, add.items) (states_pushed 0 units kept.items)) ∙ sym (viewed units aims kept v e)

-- the state that a step leaves, where it took the units as a slice of n
pub word_taken : (p word : ℕ) (units us vs rest : List IopmpUnit) (n : ℕ) (aims aims' : List ℕ) (kept more : KeptView) (left : List Kept) (v : FabricView) → fabric_view units aims kept ≡ v → us ≡ units → HasOneMore kept more → length vs ≡ n
    → states_of 0 vs left ≡ (word_step p (both (states_of 0 us more.items) aims) word).0.units → aims' ≡ (word_step p (both (states_of 0 us more.items) aims) word).0.aims
    → both (states_of 0 (take n (vs ++ rest)) left) aims' ≡ (word_step p v.state word).0
word_taken p word units us vs rest n aims aims' kept more left v q same_units add len s a =
    let r = (word_step p (both (states_of 0 us more.items) aims) word).0 in
    rw (refilled n vs rest len)
    (ap (λ x. both x aims') s ∙ (ap (both r.units) a ∙ ap (λ t. (word_step p t word).0) (found units us aims kept more v q same_units add)))
