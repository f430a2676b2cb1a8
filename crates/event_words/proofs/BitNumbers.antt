-- A number that is made of bits has exactly these bits.
use Rattle.std.proofs.Common.{◌≡◌, ℕ, zero, suc, ◌+◌, ◌*◌, ◌/◌, ◌^◌, ◌<◌, ◌≤◌, Bool, true, false, cond, eqb, sum_by, arith, refl, sym, ap, ◌∙◌, subst}
use Rattle.std.specs.Int.{bit_at}
use Rattle.std.specs.List.{range_with_len}
use Rattle.std.proofs.Math.Nat.{mul_assoc, add-mul, mul_comm}
use Rattle.std.proofs.lemmas.Nat.{pow-add}
use Rattle.std.proofs.lemmas.Nat.Bits.{bit_at-suc, bit_at-zero, bit_at-lt, bit_at_above, same_from_bits_below}
use Rattle.std.proofs.lemmas.List.Sums.{sum_by-cons}
use Rattle.std.proofs.lemmas.Bool.Decides.{nat_tests}
use Rattle.event_words.specs.Registers.{has_bit, count_of_bool}
use Rattle.event_words.specs.Guards.{bit_where, number_of_bits}

-- the n bits from `low` on, as a number
abbrev bits_up : (ℕ → Bool) → ℕ → ℕ → ℕ
bits_up test low zero = 0
bits_up test low (suc n) = count_of_bool (test low) + 2 * bits_up test (low + 1) n

weighed : (p t : ℕ) → (1 + 2 * t) * p ≡ p + t * (p * 2)
weighed p t = add-mul 1 (2 * t) p ∙ rw (mul_comm 2 t, mul_assoc t 2 p, mul_comm 2 p) (omega arith)

doubled : (p t : ℕ) → (0 + 2 * t) * p ≡ t * (p * 2)
doubled p t = let e : 0 + 2 * t ≡ t * 2 = omega arith in ap (λ n. n * p) e ∙ mul_assoc t 2 p ∙ ap (λ n. t * n) (mul_comm 2 p)

placed : (b : Bool) (low t : ℕ) → cond b (2 ^ low) 0 + t * 2 ^ (low + 1) ≡ (count_of_bool b + 2 * t) * 2 ^ low
placed true low t = ap (λ n. 2 ^ low + t * n) (pow-add 2 low 1) ∙ sym (weighed (2 ^ low) t)
placed false low t = let z : 0 + t * 2 ^ (low + 1) ≡ t * 2 ^ (low + 1) = omega arith in z ∙ ap (λ n. t * n) (pow-add 2 low 1) ∙ sym (doubled (2 ^ low) t)

summed : (test : ℕ → Bool) (low n : ℕ) → sum_by (bit_where test) (range_with_len low n) ≡ bits_up test low n * 2 ^ low
summed test low zero = omega arith
summed test low (suc n) =
    sum_by-cons (bit_where test) low (range_with_len (low + 1) n)
    ∙ ap (λ s. bit_where test low + s) (summed test (low + 1) n)
    ∙ placed (test low) low (bits_up test (low + 1) n)

bit_first : (b : Bool) (t : ℕ) → bit_at (count_of_bool b + 2 * t) 0 ≡ count_of_bool b
bit_first true t = omega arith
bit_first false t = omega arith

bit_rest : (b : Bool) (t i : ℕ) → bit_at (count_of_bool b + 2 * t) (suc i) ≡ bit_at t i
bit_rest b t i = bit_at-suc (count_of_bool b + 2 * t) i ∙ ap (λ m. bit_at m i) (halved b)
  where
    halved : (b : Bool) → (count_of_bool b + 2 * t) / 2 ≡ t
    halved true = omega arith
    halved false = omega arith

up_bit : (test : ℕ → Bool) (low n i : ℕ) → i < n → bit_at (bits_up test low n) i ≡ count_of_bool (test (low + i))
up_bit test low zero i l = absurd (omega arith)
up_bit test low (suc n) zero l =
    let e : low ≡ low + 0 = omega arith in
    bit_first (test low) (bits_up test (low + 1) n) ∙ ap (λ j. count_of_bool (test j)) e
up_bit test low (suc n) (suc i) l =
    let e : low + 1 + i ≡ low + suc i = omega arith in
    bit_rest (test low) (bits_up test (low + 1) n) i ∙ up_bit test (low + 1) n i (omega arith) ∙ ap (λ j. count_of_bool (test j)) e

one_less : (b : Bool) (t n : ℕ) → t < 2 ^ n → count_of_bool b + 2 * t < 2 ^ suc n
one_less true t n l = omega arith
one_less false t n l = omega arith

up_below : (test : ℕ → Bool) (low n : ℕ) → bits_up test low n < 2 ^ n
up_below test low zero = omega arith
up_below test low (suc n) = one_less (test low) (bits_up test (low + 1) n) n (up_below test (low + 1) n)

number_is : (test : ℕ → Bool) → number_of_bits test ≡ bits_up test 0 32
number_is test = let e : bits_up test 0 32 * 2 ^ 0 ≡ bits_up test 0 32 = omega arith in summed test 0 32 ∙ e

pub number_below : (test : ℕ → Bool) → number_of_bits test < 2 ^ 32
number_below test = subst (λ n. n < 2 ^ 32) (sym (number_is test)) (up_below test 0 32)

count_one : (b : Bool) → eqb (count_of_bool b) 1 ≡ b
count_one true = refl
count_one false = refl

-- Bit i of the number is the test of i.
pub number_bit : (test : ℕ → Bool) (i : ℕ) → i < 32 → has_bit (number_of_bits test) i ≡ test i
number_bit test i l =
    let e : 0 + i ≡ i = omega arith in
    ap (λ n. has_bit n i) (number_is test) ∙ ap (λ n. eqb n 1) (up_bit test 0 32 i l) ∙ count_one (test (0 + i)) ∙ ap test e

-- A number has no other bits.
pub number_above : (test : ℕ → Bool) (i : ℕ) → 32 ≤ i → has_bit (number_of_bits test) i ≡ false
number_above test i l = ap (λ n. eqb n 1) (bit_at_above (number_of_bits test) 32 i (number_below test) l)

same_digit : (a b : ℕ) → a < 2 → b < 2 → eqb a 1 ≡ eqb b 1 → a ≡ b
same_digit a b p q e = grind (arith, nat_tests)

-- A number of 32 bits is the one that is made of its bits.
pub number_from : (n : ℕ) (test : ℕ → Bool) → n < 2 ^ 32 → ((i : ℕ) → i < 32 → has_bit n i ≡ test i) → n ≡ number_of_bits test
number_from n test small each =
    same_from_bits_below 32 n (number_of_bits test) small (number_below test)
    (λ i l. same_digit (bit_at n i) (bit_at (number_of_bits test) i) (bit_at-lt n i) (bit_at-lt (number_of_bits test) i) (each i l ∙ sym (number_bit test i l)))

-- so where no bit is set, it is 0
pub number_none : (test : ℕ → Bool) → ((i : ℕ) → i < 32 → test i ≡ false) → number_of_bits test ≡ 0
number_none test none = sym (number_from 0 test (omega arith) (λ i l. ap (λ n. eqb n 1) (bit_at-zero i) ∙ sym (none i l)))
