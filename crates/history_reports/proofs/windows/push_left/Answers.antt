-- One unit's line goes from those that are left to what is written.
use Rattle.std.proofs.Common.{arith}
use Rattle.history_reports.proofs.LeftLines.{left_more}
use Rattle.history_reports.proofs.windows.push_left.Goals as goal

pub loop-unit-preserved : goal.loop-unit-preserved
loop-unit-preserved c = λ h k seen.
    left_more h k c.loop-unit.unit c.args.units c.pending.result c.args.monitor.now c.args.out.now.items c.loop-unit.out.items c.push_count.new.out.items
    (omega arith) (omega arith) seen c.pending.ensures c.in_ok-push_count.ensures (c.loop-unit.invariant h k seen)
