use Rattle.update_planner.proofs.Puts.{value_put}
use Rattle.update_planner.proofs.values.put_values.Goals as goal

pub loop-write-preserved : goal.loop-write-preserved
loop-write-preserved c = λ q. value_put c.args.writes.now c.loop-write.write-index q _ _ _ _ c.loop-write-test.true (c.in_ok-insert.ensures.updates.0 q) (c.loop-write.invariant q)
