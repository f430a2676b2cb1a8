-- A write changes its one word to the value that it writes, where no bit of the register is guarded.
use Rattle.std.proofs.Common.{◌≡◌, ℕ, ◌+◌, ◌-◌, ◌*◌, ◌%◌, ◌^◌, ◌<◌, Bool, true, false, ◌==◌, ◌&&◌, ltb, leb, cond, Option, Some, bit_and, bit_or, arith, ap, ◌∙◌}
use Rattle.std.specs.Int.{bit_at, bit_not, w32}
use Rattle.std.specs.Int.Bits.{or_zero_l}
use Rattle.std.proofs.Math.Nat.{mod-eq_of_lt}
use Rattle.std.proofs.lemmas.Nat.{and_le_r, and_mask}
use Rattle.std.proofs.lemmas.Nat.Bits.{bit_at-zero}
use Rattle.std.proofs.lemmas.Bool.Decides.{nat_tests}
use Rattle.std.proofs.Math.Bool.{and-false}
use Rattle.std.proofs.lemmas.Bool.{or_from, and_left}
use Rattle.event_words.specs.declared.register.Register.{Register}
use Rattle.event_words.specs.Registers.{Registers, word_at, bits_of, has_bit, register_at, fields_of, ruled_word, merged, set_word, write_at, written}
use Rattle.event_words.specs.Guards.{is_read_only_bit, is_locked_domain, whole_where, is_low_locked, is_high_locked, is_entry_locked, is_locked, is_guarded_of, is_guarded, guarded_bits}
use Rattle.event_words.proofs.BitNumbers.{number_none}

-- ---- tests that fail

zero_bit : (i : ℕ) → has_bit 0 i ≡ false
zero_bit i = ap (λ b. b == 1) (bit_at-zero i)

zero_pair : (i : ℕ) (b : Bool) → cond b (has_bit 0 i) (has_bit 0 (i - 32)) ≡ false
zero_pair i true = zero_bit i
zero_pair i false = zero_bit (i - 32)

pub nothing_below : (m : ℕ) → ltb m 0 ≡ false
nothing_below m = search (nat_tests, arith)

-- ---- the lines of the table of guards where no lock is set

pub domain_unlocked : (r : Registers) (m : ℕ) → word_at r 16 ≡ 0 → word_at r 17 ≡ 0 → is_locked_domain r m ≡ false
domain_unlocked r m e f = rw (e, f) (zero_pair (m + 1) (ltb (m + 1) 32))

row_unlocked : (r : Registers) (s : ℕ) → word_at r (1024 + 8 * s) % 2 ≡ 0 → has_bit (word_at r (1024 + 8 * s)) 0 ≡ false
row_unlocked r s e = let z : bit_at (word_at r (1024 + 8 * s)) 0 ≡ 0 = omega arith in ap (λ b. b == 1) z

pub low_unlocked : (r : Registers) (s : ℕ) (q : Register) → word_at r 16 ≡ 0 → word_at r 17 ≡ 0 → word_at r (1024 + 8 * s) % 2 ≡ 0 → (i : ℕ) → is_low_locked r s q i ≡ false
low_unlocked r s q e f g i =
    or_from _ _ (and_left _ _ (row_unlocked r s g)) (ap (λ b. leb 1 i && b) (domain_unlocked r (i - 1) e f) ∙ and-false (leb 1 i))

pub high_unlocked : (r : Registers) (s : ℕ) (q : Register) → word_at r 16 ≡ 0 → word_at r 17 ≡ 0 → word_at r (1024 + 8 * s) % 2 ≡ 0 → (i : ℕ) → is_high_locked r s q i ≡ false
high_unlocked r s q e f g i = or_from _ _ (and_left _ _ (row_unlocked r s g)) (domain_unlocked r (i + 31) e f)

pub permission_unlocked : (r : Registers) (m : ℕ) (q : Register) → word_at r 16 ≡ 0 → word_at r 17 ≡ 0 → (i : ℕ) → whole_where r q i (is_locked_domain r m) ≡ false
permission_unlocked r m q e f i = and_left _ _ (domain_unlocked r m e f)

pub mdcfg_unlocked : (r : Registers) (m : ℕ) (q : Register) → word_at r 18 ≡ 0 → (i : ℕ) → whole_where r q i (ltb m (bits_of 1 7 (word_at r 18))) ≡ false
mdcfg_unlocked r m q e i = and_left _ _ (ap (λ w. ltb m (bits_of 1 7 w)) e ∙ nothing_below m)

pub entry_unlocked : (r : Registers) (n : ℕ) (q : Register) → word_at r 19 ≡ 0 → (i : ℕ) → is_entry_locked r n q i ≡ false
entry_unlocked r n q e i = and_left _ _ (ap (λ w. ltb n (bits_of 1 16 w)) e ∙ nothing_below n)

-- ---- one write

pub nothing_kept : (old new : ℕ) → new < 2 ^ 32 → merged 0 old new ≡ new
nothing_kept old new h =
    let a : bit_and old 0 ≡ 0 = omega (arith, and_le_r old 0) in
    let b : bit_and new (bit_not w32 0) ≡ new = and_mask new 32 ∙ mod-eq_of_lt h in
    ap (λ x. bit_or x (bit_and new (bit_not w32 0))) a ∙ (or_zero_l (bit_and new (bit_not w32 0)) ∙ b)

pub plain_write : (r : Registers) (q : Register) (i v : ℕ) → register_at r.shape i ≡ Some q → ((k : ℕ) → is_read_only_bit r.shape q k ≡ false) → ((k : ℕ) → is_locked r q k ≡ false)
    → ruled_word (fields_of r.shape q) (word_at r i) v ≡ v → v < 2 ^ 32 → written r i v (guarded_bits r i) ≡ set_word r i v
plain_write r q i v e free unlocked ruled small =
    let none : (k : ℕ) → is_guarded r i k ≡ false = λ k. ap (λ (o : Option Register). is_guarded_of r o k) e ∙ or_from _ _ (free k) (unlocked k) in
    let g : guarded_bits r i ≡ 0 = number_none (is_guarded r i) (λ k l. none k) in
    ap (written r i v) g ∙ (ap (write_at r i v 0) e ∙ ap (set_word r i) (ap (merged 0 (word_at r i)) ruled ∙ nothing_kept (word_at r i) v small))
