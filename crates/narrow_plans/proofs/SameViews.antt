-- Equal views, entry by entry.
use Rattle.std.proofs.Common.{◌≡◌, ℕ, ◌+◌, ◌<◌, Bool, true, false, ◌&&◌, eqb, List, [], ◌∷◌, length, drop, drop-cons, add-one, get_or, arith, refl, sym, ap, ◌∙◌}
use Rattle.std.specs.Bool.{beq}
use Rattle.std.proofs.lemmas.Bool.Decides.{nat_tests}
use Rattle.std.proofs.Math.Bool.{and-false}
use Rattle.std.proofs.lemmas.Bool.{and_parts}
use Rattle.narrow_plans.specs.Views.{EntryView, same_entry, same_view}

same_number : (n : ℕ) → eqb n n ≡ true
same_number n = grind (arith, nat_tests)

same_bool : (b : Bool) → beq b b ≡ true
same_bool true = refl
same_bool false = refl

entry_itself : (e : EntryView) → same_entry e e ≡ true
entry_itself e =
    rw (same_bool e.priority, same_number e.from, same_number e.to, same_bool e.read, same_bool e.write, same_bool e.fetch) refl

pub view_itself : (es : List EntryView) → same_view es es ≡ true
view_itself [] = refl
view_itself (e ∷ es) = rw (entry_itself e) (view_itself es)

pub longer : (es fs : List EntryView) → (length es ≡ length fs → ⊥) → false ≡ same_view es fs
longer [] [] ne = absurd (ne refl)
longer [] (f ∷ fs) ne = refl
longer (e ∷ es) [] ne = refl
longer (e ∷ es) (f ∷ fs) ne = rw (sym (longer es fs (λ q. ne (omega (arith, q))))) (sym (and-false (same_entry e f)))

from_here : (es fs : List EntryView) (i : ℕ) (d c : EntryView) → i < length es → i < length fs
    → same_view (drop i es) (drop i fs) ≡ (same_entry (get_or es i d) (get_or fs i c) && same_view (drop (i + 1) es) (drop (i + 1) fs))
from_here es fs i d c l k = rw (drop-cons es i d l, drop-cons fs i c k, add-one i) refl

pub differs_at : (es fs : List EntryView) (i : ℕ) (d c : EntryView) → i < length es → i < length fs
    → same_entry (get_or es i d) (get_or fs i c) ≡ false → false ≡ same_view (drop i es) (drop i fs)
differs_at es fs i d c l k t = sym (from_here es fs i d c l k ∙ ap (λ b. b && same_view (drop (i + 1) es) (drop (i + 1) fs)) t)

pub agrees_at : (es fs : List EntryView) (i : ℕ) (d c : EntryView) → i < length es → i < length fs
    → same_entry (get_or es i d) (get_or fs i c) ≡ true → same_view (drop (i + 1) es) (drop (i + 1) fs) ≡ same_view (drop i es) (drop i fs)
agrees_at es fs i d c l k t = sym (from_here es fs i d c l k ∙ ap (λ b. b && same_view (drop (i + 1) es) (drop (i + 1) fs)) t)

-- ---- views that the test finds equal are equal

true_bool : (a b : Bool) → beq a b ≡ true → a ≡ b
true_bool true true t = refl
true_bool true false t = absurd (cc)
true_bool false true t = absurd (cc)
true_bool false false t = refl

true_number : (m n : ℕ) → eqb m n ≡ true → m ≡ n
true_number m n t = grind (arith, nat_tests)

abbrev entry_of : Bool → ℕ → ℕ → Bool → Bool → Bool → EntryView
entry_of priority from to read write fetch = record { priority = priority; from = from; to = to; read = read; write = write; fetch = fetch }

same_fields : (p q : Bool) (m n k l : ℕ) (a b c d e f : Bool) → p ≡ q → m ≡ n → k ≡ l → a ≡ b → c ≡ d → e ≡ f
    → entry_of p m k a c e ≡ entry_of q n l b d f
same_fields p q m n k l a b c d e f h1 h2 h3 h4 h5 h6 = rw (h1, h2, h3, h4, h5, h6) refl

true_entry : (e f : EntryView) → same_entry e f ≡ true → e ≡ f
true_entry e f t =
    let x = and_parts _ _ t in
    let y = and_parts _ _ x.1 in
    let z = and_parts _ _ y.1 in
    let u = and_parts _ _ z.1 in
    let v = and_parts _ _ u.1 in
    same_fields _ _ _ _ _ _ _ _ _ _ _ _ (true_bool _ _ x.0) (true_number _ _ y.0) (true_number _ _ z.0) (true_bool _ _ u.0) (true_bool _ _ v.0) (true_bool _ _ v.1)

pub true_view : (es fs : List EntryView) → same_view es fs ≡ true → es ≡ fs
true_view [] [] t = refl
true_view [] (f ∷ fs) t = absurd (cc)
true_view (e ∷ es) [] t = absurd (cc)
true_view (e ∷ es) (f ∷ fs) t =
    let x = and_parts _ _ t in
    ap (λ y. y ∷ es) (true_entry e f x.0) ∙ ap (λ ys. f ∷ ys) (true_view es fs x.1)
