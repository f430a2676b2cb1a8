-- Tests on the entries of a log that a second test keeps.
use Rattle.std.proofs.Common.{◌≡◌, ℕ, suc, zero, Bool, true, false, ◌||◌, List, [], ◌∷◌, Some, None, filter, refl, sym, ap, ◌∙◌}
use Rattle.std.specs.Prelude.{slice_get}
use Rattle.std.specs.List.{list_any}
use Rattle.std.proofs.lemmas.Bool.{cond_both, or_parts}
use Rattle.event_words.proofs.Cases.{by_test}

pub record IsFound {X : Type 0} (f : X → Bool) (xs : List X) : Type 0 where
  pub index : ℕ
  pub item : X
  pub there : slice_get xs index ≡ Some item
  pub passes : f item ≡ true

found_later : {X : Type 0} (f : X → Bool) (x : X) (xs : List X) → IsFound f xs → IsFound f (x ∷ xs)
found_later f x xs h = record { index = suc h.index; item = h.item; there = h.there; passes = h.passes }

-- Some kept element passes.
pub found_kept : {X : Type 0} (f g : X → Bool) (xs : List X) → list_any f (filter g xs) ≡ true → IsFound f xs
found_kept f g [] e = absurd (let n : false ≡ true = e in cc)
found_kept f g (x ∷ xs) e =
    cond_both (g x) (x ∷ filter g xs) (filter g xs) (λ ys. list_any f ys ≡ true → IsFound f (x ∷ xs))
    (λ t e. by_test (f x) _ (λ p. record { index = zero; item = x; there = refl; passes = p })
    (λ p. found_later f x xs (found_kept f g xs (sym (ap (λ b. b || list_any f (filter g xs)) p) ∙ e))))
    (λ t e. found_later f x xs (found_kept f g xs e)) e

-- No kept element passes.
pub none_kept : {X : Type 0} (f g : X → Bool) (xs : List X) → list_any f (filter g xs) ≡ false → (k : ℕ) (x : X) → slice_get xs k ≡ Some x
    → g x ≡ true → f x ≡ false
none_kept f g [] e k x q t = absurd (let n : None ≡ Some x = q in cc)
none_kept f g (y ∷ ys) e zero x q t =
    let same : y ≡ x = cc in
    first (g y) refl (ap g same ∙ t) same e
  where
    first : (b : Bool) → g y ≡ b → g y ≡ true → y ≡ x → list_any f (filter g (y ∷ ys)) ≡ false → f x ≡ false
    first b p s same e =
        cond_both (g y) (y ∷ filter g ys) (filter g ys) (λ zs. list_any f zs ≡ false → f x ≡ false)
        (λ t e. ap f (sym same) ∙ (or_parts (f y) (list_any f (filter g ys)) e).0)
        (λ t e. absurd (let n : true ≡ false = sym s ∙ t in cc)) e
none_kept f g (y ∷ ys) e (suc k) x q t =
    cond_both (g y) (y ∷ filter g ys) (filter g ys) (λ zs. list_any f zs ≡ false → f x ≡ false)
    (λ s e. none_kept f g ys (or_parts (f y) (list_any f (filter g ys)) e).1 k x q t)
    (λ s e. none_kept f g ys e k x q t) e
