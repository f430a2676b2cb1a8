use Rattle.std.proofs.Common.{◌+◌, ◌*◌, arith}
use Rattle.event_words.specs.declared.register.Register.TheVariants.{SrcmdPerm, SrcmdPermh}
use Rattle.srcmd_formats.proofs.Pairs.{pair_is}
use Rattle.srcmd_formats.proofs.permissions.Goals as goal

pub returns-clause-first : goal.returns-clause-first
returns-clause-first c = λ s. pair_is c.args.regs.now (SrcmdPerm c.args.domain) (SrcmdPermh c.args.domain) c.pair.result (2 * s) (omega arith) (c.pair.ensures (2 * s))

pub returns-clause-second : goal.returns-clause-second
returns-clause-second c = λ s. pair_is c.args.regs.now (SrcmdPerm c.args.domain) (SrcmdPermh c.args.domain) c.pair.result (2 * s + 1) (omega arith) (c.pair.ensures (2 * s + 1))
