use Rattle.std.proofs.Common.{arith}
use Rattle.lock_rules.proofs.Lines.{kept_bit, kept_number}
use Rattle.lock_rules.proofs.keep_mask.Goals as goal

pub returns-clause-value : goal.returns-clause-value
returns-clause-value c = kept_number c.args.regs.now c.args.index c.mask_of.result c.mask_of.ensures (omega arith)

pub returns-clause-bits : goal.returns-clause-bits
returns-clause-bits c = λ i l. kept_bit c.args.regs.now c.args.index i c.mask_of.result c.mask_of.ensures l
