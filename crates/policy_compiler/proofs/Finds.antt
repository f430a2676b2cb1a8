-- Searches over runs of numbers.
use Rattle.std.proofs.Common.{◌≡◌, ℕ, zero, suc, ◌+◌, ◌≤◌, Bool, true, false, ◌&&◌, ◌||◌, List, [], ◌∷◌, find, filter, arith, refl, ap, ◌∙◌}
use Rattle.std.specs.List.{range_with_len, list_any, list_all}
use Rattle.std.specs.Option.{option_or}
use Rattle.std.proofs.lemmas.List.Folds.{find-append, list_any-append}
use Rattle.event_words.proofs.Ranges.{range_split}

pub find_range : (p : ℕ → Bool) (i n m : ℕ) → find p (range_with_len i (n + m)) ≡ option_or (find p (range_with_len i n)) (find p (range_with_len (i + n) m))
find_range p i n m = ap (find p) (range_split i n m) ∙ find-append p (range_with_len i n) (range_with_len (i + n) m)

pub any_range : (p : ℕ → Bool) (i n m : ℕ) → list_any p (range_with_len i (n + m)) ≡ (list_any p (range_with_len i n) || list_any p (range_with_len (i + n) m))
any_range p i n m = ap (list_any p) (range_split i n m) ∙ list_any-append p (range_with_len i n) (range_with_len (i + n) m)

abbrev pub never : ℕ → Bool
never x = false

pub any_never : (xs : List ℕ) → list_any never xs ≡ false
any_never [] = refl
any_never (x ∷ xs) = any_never xs

pub all_never : (a n : ℕ) → 1 ≤ n → list_all never (range_with_len a n) ≡ false
all_never a zero h = absurd (omega arith)
all_never a (suc n) h = refl

-- ---- the elements that pass a test

abbrev pub both : (ℕ → Bool) → (ℕ → Bool) → ℕ → Bool
both p q x = p x && q x

filter_any_step : (p q : ℕ → Bool) (x : ℕ) (xs : List ℕ) (b : Bool) → p x ≡ b → list_any q (filter p xs) ≡ list_any (both p q) xs → list_any q (filter p (x ∷ xs)) ≡ list_any (both p q) (x ∷ xs)
filter_any_step p q x xs true e ih = rw (e, ih) refl
filter_any_step p q x xs false e ih = rw (e, ih) refl

pub any_filter : (p q : ℕ → Bool) (xs : List ℕ) → list_any q (filter p xs) ≡ list_any (both p q) xs
any_filter p q [] = refl
any_filter p q (x ∷ xs) = filter_any_step p q x xs (p x) refl (any_filter p q xs)

abbrev pub is_some_list : List ℕ → Bool
is_some_list [] = false
is_some_list (x ∷ xs) = true

filter_some_step : (p : ℕ → Bool) (x : ℕ) (xs : List ℕ) (b : Bool) → p x ≡ b → is_some_list (filter p xs) ≡ list_any p xs → is_some_list (filter p (x ∷ xs)) ≡ list_any p (x ∷ xs)
filter_some_step p x xs true e ih = rw e refl
filter_some_step p x xs false e ih = rw (e, ih) refl

pub some_filter : (p : ℕ → Bool) (xs : List ℕ) → is_some_list (filter p xs) ≡ list_any p xs
some_filter p [] = refl
some_filter p (x ∷ xs) = filter_some_step p x xs (p x) refl (some_filter p xs)
