-- A list of words is as long as the callers' calls are together.
use Rattle.std.proofs.Common.{◌≡◌, ◌≢◌, ℕ, zero, suc, ◌+◌, ◌*◌, ◌<◌, ◌≤◌, eq-eqb, ne_eqb, cond, Bool, List, [], ◌∷◌, length, refl, sym, ap, ◌∙◌, subst, arith, suc-mul, lt_of_not-le}
use mathlib.Core.Logic.{dite}
use native.Mathlib.Decide.{ℕ_discrete, dec_le}
use Rattle.event_words.specs.Runs.{caller_of_word}
use Rattle.shared_log.specs.Words.{words_by}

pub sum_to : ℕ → (ℕ → ℕ) → ℕ
sum_to zero f = 0
sum_to (suc n) f = f n + sum_to n f

sum_to-zero : (n : ℕ) → sum_to n (λ c. 0) ≡ 0
unfolding sum_to
sum_to-zero zero = refl
sum_to-zero (suc n) = let r = sum_to-zero n in omega arith

-- f and g agree but at k, which is not below n
sum_to-same : (n k : ℕ) (f g : ℕ → ℕ) → n ≤ k → ((c : ℕ) → c ≢ k → g c ≡ f c) → sum_to n g ≡ sum_to n f
unfolding sum_to
sum_to-same zero k f g h e = refl
sum_to-same (suc n) k f g h e = let r = sum_to-same n k f g (omega arith) e in let q = e n (λ z. omega arith) in omega arith

sum_to-more : (n k : ℕ) (f g : ℕ → ℕ) → k < n → g k ≡ f k + 1 → ((c : ℕ) → c ≢ k → g c ≡ f c) → sum_to n g ≡ sum_to n f + 1
unfolding sum_to
sum_to-more zero k f g h one e = absurd (omega arith)
sum_to-more (suc n) k f g h one e = dite (ℕ_discrete n k)
    (λ is. let r = sum_to-same n k f g (omega arith) e in let q : g n ≡ f n + 1 = subst (λ (z : ℕ). g z ≡ f z + 1) (sym is) one in omega arith)
    (λ not. let r = sum_to-more n k f g (omega arith) one e in let q = e n not in omega arith)

sum_to-bound : (n B : ℕ) (f : ℕ → ℕ) → ((c : ℕ) → f c ≤ B) → sum_to n f ≤ n * B
unfolding sum_to
sum_to-bound zero B f h = omega arith
sum_to-bound (suc n) B f h = let r = sum_to-bound n B f h in let q = h n in let m = suc-mul n B in omega arith

sum_to-strict : (n B k : ℕ) (f : ℕ → ℕ) → ((c : ℕ) → f c ≤ B) → k < n → f k < B → sum_to n f < n * B
unfolding sum_to
sum_to-strict zero B k f h lt less = absurd (omega arith)
sum_to-strict (suc n) B k f h lt less = let m = suc-mul n B in let q = h n in dite (ℕ_discrete n k)
    (λ is. let r = sum_to-bound n B f h in let p : f n < B = subst (λ (z : ℕ). f z < B) (sym is) less in omega arith)
    (λ not. let r = sum_to-strict n B k f h (omega arith) less in omega arith)

pub words-own : (c w : ℕ) (ws : List ℕ) → caller_of_word w ≡ c → words_by c (w ∷ ws) ≡ w ∷ words_by c ws
words-own c w ws is = ap (λ (t : Bool). cond t (w ∷ words_by c ws) (words_by c ws)) (eq-eqb (caller_of_word w) c is)

pub words-other : (c w : ℕ) (ws : List ℕ) → caller_of_word w ≢ c → words_by c (w ∷ ws) ≡ words_by c ws
words-other c w ws not = ap (λ (t : Bool). cond t (w ∷ words_by c ws) (words_by c ws)) (ne_eqb (caller_of_word w) c not)

abbrev counts : List ℕ → ℕ → ℕ
counts ws c = length (words_by c ws)

pub below : (n w : ℕ) (ws : List ℕ) → ((c : ℕ) → n ≤ c → words_by c (w ∷ ws) ≡ []) → Dec (n ≤ caller_of_word w) → caller_of_word w < n
below n w ws none (yes h) = let e : w ∷ words_by (caller_of_word w) ws ≡ [] = sym (words-own (caller_of_word w) w ws refl) ∙ none (caller_of_word w) h in cc
below n w ws none (no h) = lt_of_not-le h

pub tail_none : (n w : ℕ) (ws : List ℕ) → caller_of_word w < n → ((c : ℕ) → n ≤ c → words_by c (w ∷ ws) ≡ []) → (c : ℕ) → n ≤ c → words_by c ws ≡ []
tail_none n w ws lt none c h = sym (words-other c w ws (λ e. omega arith)) ∙ none c h

-- where no other number is borne, all words are those of 0
pub only_first : (ws : List ℕ) → ((c : ℕ) → 1 ≤ c → words_by c ws ≡ []) → words_by 0 ws ≡ ws
only_first [] none = refl
only_first (w ∷ ws) none = let lt = below 1 w ws none (dec_le 1 (caller_of_word w)) in
    words-own 0 w ws (omega arith) ∙ ap (λ (l : List ℕ). w ∷ l) (only_first ws (tail_none 1 w ws lt none))

pub counted : (n : ℕ) (ws : List ℕ) → ((c : ℕ) → n ≤ c → words_by c ws ≡ []) → length ws ≡ sum_to n (counts ws)
counted n [] none = sym (sum_to-zero n)
counted n (w ∷ ws) none = let lt = below n w ws none (dec_le n (caller_of_word w)) in
    let r = counted n ws (tail_none n w ws lt none) in
    let m = sum_to-more n (caller_of_word w) (counts ws) (counts (w ∷ ws)) lt (let e = ap length (words-own (caller_of_word w) w ws refl) in omega arith) (λ c not. ap length (words-other c w ws (λ e. not (sym e)))) in omega arith

pub at_most : (n B : ℕ) (ws : List ℕ) → ((c : ℕ) → n ≤ c → words_by c ws ≡ []) → ((c : ℕ) → length (words_by c ws) ≤ B) → length ws ≤ n * B
at_most n B ws none h = let e = counted n ws none in let r = sum_to-bound n B (counts ws) h in omega arith

pub below_all : (n B k : ℕ) (ws : List ℕ) → ((c : ℕ) → n ≤ c → words_by c ws ≡ []) → ((c : ℕ) → length (words_by c ws) ≤ B) → k < n → length (words_by k ws) < B → length ws < n * B
below_all n B k ws none h lt less = let e = counted n ws none in let r = sum_to-strict n B k (counts ws) h lt less in omega arith
