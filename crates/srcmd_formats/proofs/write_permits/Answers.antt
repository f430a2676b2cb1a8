use Rattle.std.proofs.Common.{◌+◌, arith}
use Rattle.event_words.specs.declared.register.Register.TheVariants.{SrcmdW, SrcmdWh}
use Rattle.srcmd_formats.proofs.Pairs.{pair_is}
use Rattle.srcmd_formats.proofs.write_permits.Goals as goal

pub returns : goal.returns
returns c = λ m. pair_is c.args.regs.now (SrcmdW c.args.rrid) (SrcmdWh c.args.rrid) c.pair.result (m + 1) (omega arith) (c.pair.ensures (m + 1))
