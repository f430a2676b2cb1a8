-- The value and the bits of one word above another.
use Rattle.std.proofs.Common.{◌≡◌, ℕ, ◌+◌, ◌*◌, ◌%◌, ◌^◌, ◌<◌, ◌≤◌, eqb, bit_or, arith, refl, sym, ap, ◌∙◌, ⊎_elim}
use Rattle.std.proofs.Math.Nat.{mod-eq_of_lt}
use Rattle.std.proofs.lemmas.Nat.{or_shifted}
use Rattle.std.proofs.lemmas.Nat.Bits.{bit_at_cat_low, bit_at_cat_high}
use Rattle.std.proofs.lemmas.Bool.{cases_lt, lt-ltb, le-ltb}
use Rattle.event_words.specs.Registers.{has_bit, has_pair_bit}

-- a word above another
pub joined_value : (low high : ℕ) → low < 2 ^ 32 → high < 2 ^ 32 → bit_or (high * 2 ^ 32 % 2 ^ 64) low ≡ high * 2 ^ 32 + low
joined_value low high small fits = rw (mod-eq_of_lt {n = high * 2 ^ 32} {m = 2 ^ 64} (omega arith)) (or_shifted high 32 low small)

-- its bits
pub joined_bits : (low high i : ℕ) → low < 2 ^ 32 → high < 2 ^ 32 → has_bit (bit_or (high * 2 ^ 32 % 2 ^ 64) low) i ≡ has_pair_bit low high i
joined_bits low high i small fits =
    ap (λ n. has_bit n i) (joined_value low high small fits) ∙ ⊎_elim
    (λ (l : i < 32). ap (λ d. eqb d 1) (bit_at_cat_low high 32 low i l) ∙ sym (rw (lt-ltb i 32 l) refl))
    (λ (l : 32 ≤ i). ap (λ d. eqb d 1) (bit_at_cat_high high 32 low i small l) ∙ sym (rw (le-ltb i 32 l) refl))
    (cases_lt i 32)
