-- A text that another begins with.
use Rattle.std.proofs.Common.{◌≡◌, ◌≢◌, ℕ, zero, suc, ◌+◌, ◌<◌, ◌-◌, arith, ◌++◌, Bool, true, false, List, Option, None, Some, Bor, length, take, drop, refl, sym, ap, subst, ◌∙◌, length-drop}
use Rattle.std.specs.Option.{MatchOption}
use Rattle.std.proofs.lemmas.Slice.Eq.{strip_prefix_is}
use Rattle.std.proofs.lemmas.Bool.Decides.{Decides-eqb}
use Rattle.std.specs.Prelude.{not, ◌==◌}
use Rattle.std.proofs.lemmas.Bool.{eq-eqb, eqb-true, not-true, not-false}
use lib.Pointwise.{pointwise}
use lib.Dec.{eqb}
use Rattle.std.specs.Cmp.Lexicographic.{same_text, other_text}
use Rattle.std.proofs.Math.Seq.{take-append_seam, take-length}
use Rattle.std.proofs.lemmas.List.{take-append-drop, append_cancel_left}

-- the part of a text from a place on
pub part_from : (front text : List ℕ) → take (length text - length front) (drop (length front) text) ≡ drop (length front) text
part_from front text = ap (λ n. take n (drop (length front) text)) (sym (length-drop (length front) text)) ∙ take-length (drop (length front) text)

pub front_of : (text front rest : List ℕ) → text ≡ front ++ rest → take (length front) text ≡ front
front_of text front rest e = ap (take (length front)) e ∙ take-append_seam front rest

-- a text that has this front, and what follows it
pub after_front : (text front : List ℕ) → take (length front) text ≡ front → text ≡ front ++ take (length text - length front) (drop (length front) text)
after_front text front e =
    sym (take-append-drop (length front) text) ∙ ap (λ bs. bs ++ drop (length front) text) e ∙ ap (λ bs. front ++ bs) (sym (part_from front text))

-- what follows a front is one text
pub part_is : (text front a b : List ℕ) → text ≡ front ++ a → text ≡ front ++ b → a ≡ b
part_is text front a b d e = append_cancel_left front a b (sym d ∙ e)

-- ---- comparisons

pub other : (r : Bool) (xs ys : List ℕ) → r ≡ not (pointwise eqb xs ys) → r ≡ true → xs ≡ ys → ⊥
other r xs ys d h e = other_text xs ys (sym (not-true (pointwise eqb xs ys) (sym d ∙ h))) e

pub same : (r : Bool) (xs ys : List ℕ) → r ≡ not (pointwise eqb xs ys) → r ≡ false → xs ≡ ys
same r xs ys d h = same_text xs ys (sym (not-false (pointwise eqb xs ys) (sym d ∙ h)))

-- ---- a front that is taken away

-- what `strip_prefix` says
abbrev pub IsStripped : List ℕ → List ℕ → Option (Bor (List ℕ)) → Type 0
IsStripped text front r =
    MatchOption r (pointwise eqb (take (length front) text) front ≡ false)
    (λ x. (pointwise eqb (take (length front) text) front ≡ true) × (x.now ≡ drop (length front) text) × (length x.now + length front ≡ length text))

pub stripped : (text front : List ℕ) (r : Option (Bor (List ℕ))) (x : Bor (List ℕ)) → IsStripped text front r → r ≡ Some x → text ≡ front ++ x.now
stripped text front r x h e = subst (λ o. MatchOption o ((rest : List ℕ) → text ≢ front ++ rest) (λ y. text ≡ front ++ y.now)) e (strip_prefix_is Decides-eqb text front r h)

pub not_stripped : (text front : List ℕ) (r : Option (Bor (List ℕ))) → IsStripped text front r → r ≡ None → (rest : List ℕ) → text ≡ front ++ rest → ⊥
not_stripped text front r h e = subst (λ o. MatchOption o ((rest : List ℕ) → text ≢ front ++ rest) (λ y. text ≡ front ++ y.now)) e (strip_prefix_is Decides-eqb text front r h)

-- ---- whether something is left

pub is_left : (bytes left : List ℕ) (t : Bool) → t ≡ (length bytes == 0) → t ≡ false → bytes ≡ left → 0 < length left
is_left bytes left t d h e = by (length bytes) refl
  where
    by : (n : ℕ) → length bytes ≡ n → 0 < length left
    by zero z = absurd (let n : true ≡ false = sym (eq-eqb (length bytes) 0 z) ∙ sym d ∙ h in cc)
    by (suc n) z = omega (arith, z, ap length e)

pub none_is_left : (bytes left : List ℕ) (t : Bool) → t ≡ (length bytes == 0) → t ≡ true → bytes ≡ left → length left ≡ 0
none_is_left bytes left t d h e = let z = eqb-true (length bytes) 0 (sym d ∙ h) in omega (arith, z, ap length e)
