-- Lists of words.
use Rattle.std.proofs.Common.{◌≡◌, ◌≢◌, ℕ, zero, suc, ◌+◌, ◌<◌, ◌≤◌, ◌⊎◌, ⊎_elim, inl, inr, eqb, List, [], ◌∷◌, ◌++◌, length, get_or, refl, sym, ap, ◌∙◌, arith, length-append, append-nil}
use Rattle.std.proofs.lemmas.List.Elements.{filter-append}
use Rattle.event_words.specs.Runs.{caller_of_word}
use Rattle.shared_log.specs.Words.{words_by, AllEventWords}
use Rattle.shared_log.proofs.Counting.{words-own, words-other}
use mathlib.Core.Logic.{dite}
use mathlib.Core.Option.{some, some-injective, some-ne-none}
use lib.ListN.{get_elem?}
use native.Mathlib.Decide.{ℕ_discrete}

pub get-behind : (xs ys : List ℕ) → get_or (xs ++ ys) (length xs) 0 ≡ get_or ys 0 0
get-behind [] ys = refl
get-behind (x ∷ xs) ys = get-behind xs ys

pub append-none-left : (xs ys : List ℕ) → xs ++ ys ≡ [] → xs ≡ []
append-none-left [] ys e = refl
append-none-left (x ∷ xs) ys e = cc

pub append-none-right : (xs ys : List ℕ) → xs ++ ys ≡ [] → ys ≡ []
append-none-right [] ys e = e
append-none-right (x ∷ xs) ys e = cc

pub at-below : {A : Type 0} (l : List A) (i : ℕ) (a : A) → get_elem? l i ≡ some a → i < length l
at-below [] i a e = absurd (some-ne-none a (sym e))
at-below (x ∷ xs) zero a e = omega arith
at-below (x ∷ xs) (suc i) a e = let r = at-below xs i a e in omega arith

pub at_end : {A : Type 0} (l : List A) (a b : A) (j : ℕ) → get_elem? (l ++ a ∷ []) j ≡ some b → (get_elem? l j ≡ some b) ⊎ ((j ≡ length l) × (a ≡ b))
at_end [] a b zero e = inr (refl, some-injective a b e)
at_end [] a b (suc j) e = absurd (some-ne-none b (sym e))
at_end (x ∷ xs) a b zero e = inl e
at_end (x ∷ xs) a b (suc j) e = ⊎_elim (λ t. inl t) (λ t. inr (ap suc t.0, t.1)) (at_end xs a b j e)

pub AllEventWords-left : (xs ys : List ℕ) → AllEventWords (xs ++ ys) → AllEventWords xs
AllEventWords-left [] ys p = tt
AllEventWords-left (x ∷ xs) ys p = (p.0, AllEventWords-left xs ys p.1)

pub words-append : (c : ℕ) (xs ys : List ℕ) → words_by c (xs ++ ys) ≡ words_by c xs ++ words_by c ys
words-append c xs ys = filter-append (λ w. eqb (caller_of_word w) c) xs ys

pub words-prefix-none : (c : ℕ) (xs ys : List ℕ) → words_by c (xs ++ ys) ≡ [] → words_by c xs ≡ []
words-prefix-none c xs ys e = append-none-left (words_by c xs) (words_by c ys) (sym (words-append c xs ys) ∙ e)

pub words-prefix-length : (c : ℕ) (xs ys : List ℕ) → length (words_by c xs) ≤ length (words_by c (xs ++ ys))
words-prefix-length c xs ys = omega (arith, ap length (words-append c xs ys), length-append (words_by c xs) (words_by c ys))

-- a word of another caller more
pub words-snoc-other : (c : ℕ) (xs : List ℕ) (w : ℕ) → caller_of_word w ≢ c → words_by c (xs ++ w ∷ []) ≡ words_by c xs
words-snoc-other c xs w not = words-append c xs (w ∷ []) ∙ ap (λ (l : List ℕ). words_by c xs ++ l) (words-other c w [] not) ∙ append-nil (words_by c xs)

pub words-snoc-own : (c : ℕ) (xs : List ℕ) (w : ℕ) → caller_of_word w ≡ c → words_by c (xs ++ w ∷ []) ≡ words_by c xs ++ w ∷ []
words-snoc-own c xs w is = words-append c xs (w ∷ []) ∙ ap (λ (l : List ℕ). words_by c xs ++ l) (words-own c w [] is)

pub words-snoc-length : (c : ℕ) (xs : List ℕ) (w : ℕ) → length (words_by c (xs ++ w ∷ [])) ≤ length (words_by c xs) + 1
words-snoc-length c xs w = dite (ℕ_discrete (caller_of_word w) c)
    (λ is. omega (arith, ap length (words-snoc-own c xs w is), length-append (words_by c xs) (w ∷ [])))
    (λ not. omega (arith, ap length (words-snoc-other c xs w not)))
