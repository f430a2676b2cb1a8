-- A low register and the one after it, which is its high register.
use Rattle.std.proofs.Common.{◌≡◌, ℕ, ◌+◌, ap, ◌∙◌}
use Rattle.event_words.specs.declared.register.Register.{Register}
use Rattle.event_words.specs.Registers.{Registers, index_of, word_at, has_bit, has_pair_bit}
use Rattle.event_words.specs.Guards.{reg}

pub pair_is : (r : Registers) (low high : Register) (n i : ℕ) → index_of low + 1 ≡ index_of high → has_bit n i ≡ has_pair_bit (reg r low) (word_at r (index_of low + 1)) i → has_bit n i ≡ has_pair_bit (reg r low) (reg r high) i
pair_is r low high n i e h = h ∙ ap (λ k. has_pair_bit (reg r low) (word_at r k) i) e
