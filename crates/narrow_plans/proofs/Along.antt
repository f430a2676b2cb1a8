-- Views along the states between two images.
use Rattle.std.proofs.Common.{◌≡◌, ℕ, ◌+◌, ◌<◌, ◌≤◌, Bool, true, false, not, ◌&&◌, List, [], ◌∷◌, length, drop, drop-cons, drop_of_length-le, add-one, get_or, refl, sym, ap, ◌∙◌}
use Rattle.std.specs.List.{list_all}
use Rattle.std.proofs.lemmas.List.{drop_more}
use Rattle.event_words.specs.Registers.{Registers, word_at}
use Rattle.event_words.specs.Guards.{guarded_bits}
use Rattle.policy_compiler.specs.declared.image.RegPair.{RegPair}
use Rattle.policy_compiler.specs.Laws.{guarded_write, after_writes}
use Rattle.narrow_plans.specs.Views.{EntryView, view_of, same_view}
use Rattle.narrow_plans.specs.BetweenStates.{states_after}
use Rattle.narrow_plans.specs.Unaffected.{has_view}
use Rattle.narrow_plans.specs.Seen.{LeavesView}
use Rattle.narrow_plans.proofs.SameViews.{view_itself, true_view}
use Rattle.narrow_plans.proofs.OtherEntries.{word_stays}

has_own_view : (r : Registers) (s : ℕ) (view : List EntryView) → view ≡ view_of r s → true ≡ has_view s view r
has_own_view r s view e = sym (ap (same_view view) (sym e) ∙ view_itself view)

pub view_unwritten : (r q : Registers) (w : RegPair) (s : ℕ) (view : List EntryView) → view ≡ view_of r s → q ≡ guarded_write r w
    → word_at q w.index ≡ word_at r w.index → true ≡ has_view s view q
view_unwritten r q w s view e f same =
    let g : q ≡ r = word_stays r q w.index w.value (guarded_bits r w.index) f same in
    has_own_view q s view (e ∙ ap (λ x. view_of x s) (sym g))

pub view_left : (r q : Registers) (w : RegPair) (s : ℕ) (view : List EntryView) → view ≡ view_of r s → q ≡ guarded_write r w
    → LeavesView q w.index s → true ≡ has_view s view q
view_left r q w s view e f leaves =
    has_own_view q s view (e ∙ leaves r w.value (guarded_bits r w.index) f)

-- ---- what is left of the writes

pub after_more : (r : Registers) (ws : List RegPair) (i : ℕ) (d : RegPair) → i < length ws
    → after_writes r (drop i ws) ≡ after_writes (guarded_write r (get_or ws i d)) (drop (i + 1) ws)
after_more r ws i d l = rw (drop-cons ws i d l, add-one i) refl

abbrev pub all_have : ℕ → List EntryView → Registers → List RegPair → Bool
all_have s view r ws = list_all (has_view s view) (states_after r ws)

-- a state with the view, and the states after the next write
next_state : (r : Registers) (s : ℕ) (view : List EntryView) (ws : List RegPair) (i : ℕ) (d : RegPair) → i < length ws
    → true ≡ has_view s view r → all_have s view r (drop i ws) ≡ all_have s view (guarded_write r (get_or ws i d)) (drop (i + 1) ws)
next_state r s view ws i d l t =
    ap (all_have s view r) (drop_more ws i d l) ∙ (ap (λ b. b && all_have s view (guarded_write r (get_or ws i d)) (drop (i + 1) ws)) (sym t))

-- a state with another view
other_view : (r : Registers) (s : ℕ) (view : List EntryView) (ws : List RegPair) → false ≡ has_view s view r → false ≡ all_have s view r ws
other_view r s view [] t = ap (λ b. b && true) t
other_view r s view (w ∷ ws) t = ap (λ b. b && all_have s view (guarded_write r w) ws) t

-- ---- one write more

module _ (r q : Registers) (s : ℕ) (view : List EntryView) (ws : List RegPair) (i : ℕ) (d : RegPair) (l : i < length ws) (seen : view_of r s ≡ view) (made : q ≡ guarded_write r (get_or ws i d)) where
  goes_on : all_have s view q (drop (i + 1) ws) ≡ all_have s view r (drop i ws)
  goes_on =
      ap (λ x. all_have s view x (drop (i + 1) ws)) made
      ∙ sym (next_state r s view ws i d l (has_own_view r s view (sym seen)))

  pub write_differs : false ≡ has_view s view q → (whole : Bool) → all_have s view r (drop i ws) ≡ whole → not whole ≡ true
  write_differs t whole e = ap not (sym (other_view q s view (drop (i + 1) ws) t ∙ (goes_on ∙ e)))

  pub write_agrees : has_view s view q ≡ true → (whole : Bool) → all_have s view r (drop i ws) ≡ whole
      → (view_of q s ≡ view) × (all_have s view q (drop (i + 1) ws) ≡ whole)
  write_agrees t whole e = (sym (true_view view (view_of q s) t), goes_on ∙ e)

-- the last state
pub writes_end : (r : Registers) (s : ℕ) (view : List EntryView) (ws : List RegPair) (i : ℕ) → length ws ≤ i → view_of r s ≡ view
    → (whole : Bool) → all_have s view r (drop i ws) ≡ whole → not whole ≡ false
writes_end r s view ws i past seen whole e =
    let nothing : drop i ws ≡ [] = drop_of_length-le ws past in
    let last : all_have s view r [] ≡ true = ap (λ b. b && true) (sym (has_own_view r s view (sym seen))) in
    ap not (sym e ∙ (ap (all_have s view r) nothing ∙ last))
