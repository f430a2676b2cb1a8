use Rattle.std.proofs.Common.{◌≡◌, ℕ, ◌<◌, ◌-◌, ◌^◌, bit_and, arith, ◌∙◌}
use Rattle.std.proofs.Math.Nat.{mod-eq_of_lt}
use Rattle.std.proofs.lemmas.Nat.{and_mask}
use Rattle.event_words.specs.Registers.{Registers, set_word}
use Rattle.event_words.proofs.WellFormedLemmas.{IsWellFormed-set_word}
use Rattle.register_fields.proofs.regs.Regs.put_error.Goals as goal

inside_all : (n : ℕ) → n < 2 ^ 32 → bit_and n (2 ^ 32 - 1) ≡ n
inside_all n h = and_mask n 32 ∙ mod-eq_of_lt h

pub invariant_of-self : goal.invariant_of-self
invariant_of-self c =
    let r : Registers = record { shape = c.self.inside.shape; words = c.self.inside.words.items } in
    let s = set_word r 25 c.args.info in
    let t = set_word s 26 c.args.addr in
    let u = set_word t 27 c.args.addrh in
    let a = IsWellFormed-set_word r 25 c.args.info c.self.invariant c.requires.info in
    let b = IsWellFormed-set_word s 26 c.args.addr a (inside_all c.args.addr (omega arith)) in
    let d = IsWellFormed-set_word t 27 c.args.addrh b c.requires.addrh in
    IsWellFormed-set_word u 28 c.args.id d (inside_all c.args.id (omega arith))
