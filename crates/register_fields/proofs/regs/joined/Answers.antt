use Rattle.std.proofs.Common.{arith}
use Rattle.register_fields.proofs.PairBits.{joined_value, joined_bits}
use Rattle.register_fields.proofs.regs.joined.Goals as goal

pub returns-clause-value : goal.returns-clause-value
returns-clause-value c = joined_value c.args.low c.args.high (omega arith) (omega arith)

pub returns-clause-bits : goal.returns-clause-bits
returns-clause-bits c = λ i. joined_bits c.args.low c.args.high i (omega arith) (omega arith)
