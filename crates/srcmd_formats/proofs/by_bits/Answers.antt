use Rattle.std.proofs.Common.{◌/◌, bit_and, ap, ◌∙◌}
use Rattle.event_words.specs.Registers.{has_bit}
use Rattle.srcmd_formats.proofs.Masks.{bits_tell}
use Rattle.srcmd_formats.proofs.by_bits.Goals as goal

pub returns : goal.returns
returns c = λ m. ap (λ k. has_bit (bit_and (c.args.number / 2) k) m) c.ones.ensures ∙ bits_tell c.args.number c.args.domains m
