-- The low and the high word of a number whose bits two registers share.
use Rattle.std.proofs.Common.{◌≡◌, ℕ, ◌+◌, ◌-◌, ◌*◌, ◌/◌, ◌%◌, ◌^◌, ◌<◌, ◌≤◌, true, false, ◌==◌, ltb, min, arith, sym, ap, ◌∙◌, ⊎_elim}
use Rattle.std.specs.Int.{bit_at}
use Rattle.std.proofs.Math.Pow.{pow_mono}
use Rattle.std.proofs.lemmas.Nat.{div-add-mod', mod_below, pow-add}
use Rattle.std.proofs.lemmas.Nat.Bits.{bit_at_cat_low, bit_at_cat_high}
use Rattle.std.proofs.lemmas.Bool.{cases_lt}
use Rattle.std.proofs.lemmas.Bool.Decides.{nat_tests}
use Rattle.event_words.specs.Registers.{has_bit, has_pair_bit}

low_bit : (n i : ℕ) → i < 32 → bit_at (n % 2 ^ 32) i ≡ bit_at n i
low_bit n i h = sym (bit_at_cat_low (n / 2 ^ 32) 32 (n % 2 ^ 32) i h) ∙ ap (λ m. bit_at m i) (div-add-mod' n (2 ^ 32))

high_bit : (n i : ℕ) → 32 ≤ i → bit_at (n / 2 ^ 32) (i - 32) ≡ bit_at n i
high_bit n i h = sym (bit_at_cat_high (n / 2 ^ 32) 32 (n % 2 ^ 32) i (mod_below n (2 ^ 32) (omega arith)) h) ∙ ap (λ m. bit_at m i) (div-add-mod' n (2 ^ 32))

-- Bit i of two registers is that of the number, where the high one has its high word.
pub has_pair_bit-words : (low high n i : ℕ) → low ≡ n % 2 ^ 32 → (32 ≤ i → high ≡ n / 2 ^ 32) → has_pair_bit low high i ≡ has_bit n i
has_pair_bit-words low high n i e f = ⊎_elim
    (λ (below : i < 32).
    let t : ltb i 32 ≡ true = search (nat_tests, arith) in
    rw t (ap (λ w. has_bit w i) e ∙ ap (λ b. b == 1) (low_bit n i below)))
    (λ (from : 32 ≤ i).
    let t : ltb i 32 ≡ false = search (nat_tests, arith) in
    rw t (ap (λ w. has_bit w (i - 32)) (f from) ∙ ap (λ b. b == 1) (high_bit n i from)))
    (cases_lt i 32)

-- ---- how large the words are

-- of a bit for each of d domains, from bit 1 on
pub domains_low : (d n : ℕ) → n / 2 < 2 ^ d → n % 2 ^ 32 / 2 < 2 ^ (min d 31)
domains_low d n h = ⊎_elim
    (λ (few : d < 31). let e : min d 31 ≡ d = omega arith in rw e (omega arith))
    (λ (many : 31 ≤ d). let e : min d 31 ≡ 31 = omega arith in rw e (omega arith))
    (cases_lt d 31)

pub domains_high : (d n : ℕ) → n / 2 < 2 ^ d → n / 2 ^ 32 < 2 ^ (d - 31)
domains_high d n h = ⊎_elim
    (λ (few : d < 31). let e : d - 31 ≡ 0 = omega arith in let top : 2 ^ d ≤ 2 ^ 31 = pow_mono {j = 31} (omega arith) in rw e (omega arith))
    (λ (many : 31 ≤ d).
    let e : d - 31 + 31 ≡ d = omega arith in
    let p : 2 ^ d ≡ 2 ^ (d - 31) * 2 ^ 31 = ap (λ k. 2 ^ k) (sym e) ∙ pow-add 2 (d - 31) 31 in
    omega arith)
    (cases_lt d 31)

-- of two bits for each of r requesters
pub rrids_low : (r n : ℕ) → n < 2 ^ (2 * r) → n % 2 ^ 32 < 2 ^ (2 * min r 16)
rrids_low r n h = ⊎_elim
    (λ (few : r < 16). let e : min r 16 ≡ r = omega arith in rw e (omega arith))
    (λ (many : 16 ≤ r). let e : min r 16 ≡ 16 = omega arith in rw e (omega arith))
    (cases_lt r 16)

pub rrids_high : (r n : ℕ) → n < 2 ^ (2 * r) → n / 2 ^ 32 < 2 ^ (2 * (r - 16))
rrids_high r n h = ⊎_elim
    (λ (few : r < 16). let e : r - 16 ≡ 0 = omega arith in let top : 2 ^ (2 * r) ≤ 2 ^ 32 = pow_mono {j = 32} (omega arith) in rw e (omega arith))
    (λ (many : 16 ≤ r).
    let e : 2 * (r - 16) + 32 ≡ 2 * r = omega arith in
    let p : 2 ^ (2 * r) ≡ 2 ^ (2 * (r - 16)) * 2 ^ 32 = ap (λ k. 2 ^ k) (sym e) ∙ pow-add 2 (2 * (r - 16)) 32 in
    omega arith)
    (cases_lt r 16)
