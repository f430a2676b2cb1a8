use Rattle.std.proofs.Common.{arith}
use Rattle.policy_compiler.proofs.WriteSteps.{enables_more}
use Rattle.policy_compiler.proofs.writes.push_enables.Goals as goal

pub loop-rrid-preserved : goal.loop-rrid-preserved
loop-rrid-preserved c = enables_more c.args.domains c.args.list.now c.loop-rrid.rrid c.args.rrids c.loop-rrid.writes.items c.push_enable.new.writes.items _ (omega arith) c.in_ok-push_enable.ensures c.loop-rrid.invariant
