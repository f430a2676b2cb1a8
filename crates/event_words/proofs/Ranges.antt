-- Runs of numbers, cut in two or one number longer, what some of a run do, and a search along one.
use Rattle.std.proofs.Common.{◌≡◌, ℕ, suc, zero, ◌+◌, ◌-◌, ◌<◌, ◌≤◌, Bool, true, false, ◌&&◌, ◌||◌, cond, List, [], ◌∷◌, ◌++◌, Some, None, find, filter, arith, refl, sym, ap, ◌∙◌, subst}
use Rattle.std.specs.List.{range_with_len, list_any, list_all}
use Rattle.std.proofs.Math.Bool.{and-true, or-false}
use Rattle.std.proofs.lemmas.List.{append-nil, map-id}
use Rattle.std.proofs.lemmas.List.FromFn.{map-range_with_len_more}
use Rattle.std.proofs.lemmas.List.Folds.{list_any-append, list_all-append}
use Rattle.std.proofs.lemmas.List.Elements.{filter-append}

pub range_split : (a n m : ℕ) → range_with_len a (n + m) ≡ range_with_len a n ++ range_with_len (a + n) m
range_split a zero m =
    let e : a ≡ a + 0 = omega arith in
    let f : m ≡ 0 + m = omega arith in
    subst (λ k. range_with_len a k ≡ range_with_len (a + 0) m) f (ap (λ k. range_with_len k m) e)
range_split a (suc n) m =
    let e : suc (n + m) ≡ suc n + m = omega arith in
    let f : (a + 1) + n ≡ a + suc n = omega arith in
    subst (λ k. range_with_len a k ≡ (a ∷ range_with_len (a + 1) n) ++ range_with_len (a + suc n) m) e
    (ap (λ xs. a ∷ xs) (subst (λ k. range_with_len (a + 1) (n + m) ≡ range_with_len (a + 1) n ++ range_with_len k m) f (range_split (a + 1) n m)))

pub range_more : (a n j : ℕ) → a + n ≡ j → range_with_len a (n + 1) ≡ range_with_len a n ++ j ∷ []
range_more a n j e =
    sym (map-id (range_with_len a (n + 1)))
    ∙ (map-range_with_len_more (λ (x : ℕ). x) a n j e ∙ ap (λ xs. xs ++ j ∷ []) (map-id (range_with_len a n)))

-- ---- one more at the end

pub any_more : (p : ℕ → Bool) (xs : List ℕ) (x : ℕ) → list_any p (xs ++ x ∷ []) ≡ (list_any p xs || p x)
any_more p xs x = list_any-append p xs (x ∷ []) ∙ ap (λ b. list_any p xs || b) (or-false (p x))

pub all_more : (p : ℕ → Bool) (xs : List ℕ) (x : ℕ) → list_all p (xs ++ x ∷ []) ≡ (list_all p xs && p x)
all_more p xs x = list_all-append p xs (x ∷ []) ∙ ap (λ b. list_all p xs && b) (and-true (p x))

filter_more : (p : ℕ → Bool) (i : ℕ) → filter p (range_with_len 0 (i + 1)) ≡ filter p (range_with_len 0 i) ++ cond (p i) (i ∷ []) []
filter_more p i = ap (filter p) (range_more 0 i i (omega arith)) ∙ filter-append p (range_with_len 0 i) (i ∷ [])

pub filter_taken : (p : ℕ → Bool) (i : ℕ) → p i ≡ true → filter p (range_with_len 0 (i + 1)) ≡ filter p (range_with_len 0 i) ++ i ∷ []
filter_taken p i t = rw t at (filter_more p i)

pub filter_left : (p : ℕ → Bool) (i : ℕ) → p i ≡ false → filter p (range_with_len 0 (i + 1)) ≡ filter p (range_with_len 0 i)
filter_left p i t = (rw t at (filter_more p i)) ∙ append-nil (filter p (range_with_len 0 i))

-- ---- a test that fails on a run

pub none_any : (p : ℕ → Bool) (a n : ℕ) → ((x : ℕ) → a ≤ x → x < a + n → p x ≡ false) → list_any p (range_with_len a n) ≡ false
none_any p a zero h = refl
none_any p a (suc n) h =
    rw (h a (omega arith) (omega arith)) (none_any p (a + 1) n (λ x y z. h x (omega arith) (omega arith)))

-- ---- the turns of a loop that searches

pub range_step : (i n : ℕ) → i < n → range_with_len i (n - i) ≡ i ∷ range_with_len (i + 1) (n - (i + 1))
range_step i n h =
    let e : n - i ≡ suc (n - (i + 1)) = omega arith in ap (range_with_len i) e

pub find_step : (p : ℕ → Bool) (i n : ℕ) → i < n → find p (range_with_len i (n - i)) ≡ cond (p i) (Some i) (find p (range_with_len (i + 1) (n - (i + 1))))
find_step p i n h = ap (find p) (range_step i n h)

pub find_none : (p : ℕ → Bool) (a n : ℕ) → ((m : ℕ) → a ≤ m → m < a + n → p m ≡ false) → find p (range_with_len a n) ≡ None
find_none p a zero h = refl
find_none p a (suc n) h =
    rw (h a (omega arith) (omega arith)) (find_none p (a + 1) n (λ m x y. h m (omega arith) (omega arith)))
