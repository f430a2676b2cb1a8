-- Numerals whose value stands still above the greatest number of 64 bits.
use Rattle.std.proofs.Common.{◌≡◌, ℕ, ◌+◌, ◌*◌, ◌^◌, ◌<◌, ◌≤◌, min, List, [], ◌∷◌, None, Some, Option, Result, length, get_or, drop, refl, ap, sym, ◌∙◌, inl, inr, arith, add-one, drop-cons}
use Rattle.std.proofs.Math.ListN.{drop_of_length-le}
use Rattle.std.proofs.Math.Nat.{mul-le-mul_left, pow-le-pow_right}
use Rattle.std.proofs.lemmas.Grind.{pow_more}
use Rattle.std.proofs.lemmas.Bool.{cases_lt}
use Rattle.std.proofs.lemmas.Bool.Decides.{nat_tests}
use Rattle.std.specs.Option.{option_map, option_and_then}
use Rattle.script_reader.specs.Numbers.{held, digit_of, numeral_after, numeral_of, number_of, number_at, fitting}

abbrev pub capped : ℕ → ℕ
capped n = min n (2 ^ 64)

times_le : (n base : ℕ) → 1 ≤ base → n ≤ n * base
times_le n base pos = grind arith

-- numbers that are capped alike stay so with one digit more
capped_more : (base n m d : ℕ) → 1 ≤ base → capped n ≡ capped m → capped (n * base + d) ≡ capped (m * base + d)
capped_more base n m d pos e =
    elim (cases_lt n (2 ^ 64)) [
      | inl lt ↦ ap (λ x. capped (x * base + d)) (omega arith)
      | inr ge ↦ omega (arith, times_le n base pos, times_le m base pos)
    ]

capped_from : (base n m : ℕ) (bs : List ℕ) → ((d : ℕ) → option_map capped (numeral_after base (n * base + d) bs) ≡ option_map capped (numeral_after base (m * base + d) bs)) → (o : Option ℕ)
    → option_map capped (option_and_then (λ d. numeral_after base (n * base + d) bs) o) ≡ option_map capped (option_and_then (λ d. numeral_after base (m * base + d) bs) o)
capped_from base n m bs h None = refl
capped_from base n m bs h (Some d) = h d

capped_after : (base n m : ℕ) (bs : List ℕ) → 1 ≤ base → capped n ≡ capped m → option_map capped (numeral_after base n bs) ≡ option_map capped (numeral_after base m bs)
capped_after base n m [] pos e = ap Some e
capped_after base n m (b ∷ bs) pos e = capped_from base n m bs (λ d. capped_after base (n * base + d) (m * base + d) bs pos (capped_more base n m d pos e)) (digit_of base b)

-- one digit of those that are left
pub numeral_step : (base n : ℕ) (bs : List ℕ) (i : ℕ) → i < length bs → numeral_after base n (drop i bs) ≡ option_and_then (λ d. numeral_after base (n * base + d) (drop (i + 1) bs)) (digit_of base (get_or bs i 0))
numeral_step base n bs i h = rw (add-one, drop-cons bs i 0) refl

pub capped_step : (base n m : ℕ) (bs : List ℕ) (i d : ℕ) → i < length bs → 1 ≤ base → digit_of base (get_or bs i 0) ≡ Some d → m ≡ capped (n * base + d)
    → option_map capped (numeral_after base n (drop i bs)) ≡ option_map capped (numeral_after base m (drop (i + 1) bs))
capped_step base n m bs i d h pos e c =
    ap (option_map capped) (numeral_step base n bs i h ∙ ap (option_and_then (λ d. numeral_after base (n * base + d) (drop (i + 1) bs))) e)
    ∙ capped_after base (n * base + d) m (drop (i + 1) bs) pos (omega arith)

pub capped_stop : (base n : ℕ) (bs : List ℕ) (i : ℕ) → i < length bs → digit_of base (get_or bs i 0) ≡ None → option_map capped (numeral_after base n (drop i bs)) ≡ None
capped_stop base n bs i h e = ap (option_map capped) (numeral_step base n bs i h ∙ ap (option_and_then (λ d. numeral_after base (n * base + d) (drop (i + 1) bs))) e)

pub capped_end : (base n : ℕ) (bs : List ℕ) (i : ℕ) → length bs ≤ i → n ≤ 2 ^ 64 → option_map capped (numeral_after base n (drop i bs)) ≡ Some n
capped_end base n bs i h small = ap (λ l. option_map capped (numeral_after base n l)) (drop_of_length-le bs h) ∙ ap Some (omega arith)

pub numeral_of_is : (base most : ℕ) (ds : List ℕ) → 1 ≤ length ds → length ds ≤ most → numeral_of base most ds ≡ numeral_after base 0 ds
numeral_of_is base most ds low high = grind (arith, nat_tests)

-- ---- up to 15 digits

-- a digit more, of a base up to 16
pub fits_more : (n base d i : ℕ) → n < 16 ^ i → base ≤ 16 → d < 16 → n * base + d < 16 ^ (i + 1)
fits_more n base d i h b k =
    let less : n * base ≤ n * 16 = mul-le-mul_left n b in
    rw (pow_more 16 i) (omega (arith, less))

pub fits_64 : (n base d i : ℕ) → n < 16 ^ i → base ≤ 16 → d < 16 → i < 15 → n * base + d < 2 ^ 64
fits_64 n base d i h b k few =
    let most : 16 ^ (i + 1) ≤ 16 ^ 15 = pow-le-pow_right {n = 16} (omega arith) {i = i + 1} {j = 15} (omega (arith, few)) in
    omega (arith, fits_more n base d i h b k, most)

-- ---- numbers of 64 bits

fitting-capped : (o : Option ℕ) → fitting (option_map capped o) ≡ fitting o
fitting-capped None = refl
fitting-capped (Some n) =
    elim (cases_lt n (2 ^ 64)) [
      | inl below ↦ ap (λ x. fitting (Some x)) (omega arith)
      | inr above ↦ grind (arith, nat_tests)
    ]

pub number_is : (word : List ℕ) (o : Option (Option ℕ)) (r : Result ℕ ℕ) → option_map held o ≡ option_map capped (number_of word) → fitting (option_map held o) ≡ r → r ≡ number_at word
unfolding number_at
number_is word o r e f = sym f ∙ ap fitting e ∙ fitting-capped (number_of word)
