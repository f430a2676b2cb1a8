use Rattle.std.proofs.Common.{length, arith, ap, sym, ◌∙◌}
use Rattle.lane_turns.proofs.Members.{member_here, member_past, members_end}
use Rattle.lane_turns.proofs.lanes.LaneSet.count.Goals.{then-has, else-has}
use Rattle.lane_turns.proofs.lanes.LaneSet.count.Goals as goal

pub loop-lane-preserved : goal.loop-lane-preserved
loop-lane-preserved c = elim c.if-has.branch [
  | then-has w ↦
      let e = ap length (member_here c.args.self c.loop-lane.lane c.loop-lane-test.true (sym c.has.ensures ∙ w.if-has.true)) in
      omega arith
  | else-has w ↦
      let e = ap length (member_past c.args.self c.loop-lane.lane c.loop-lane-test.true (sym c.has.ensures ∙ w.if-has.false)) in
      omega arith
]

pub returns-clause-count : goal.returns-clause-count
returns-clause-count c =
    let e = ap length (members_end c.args.self c.loop-lane.lane (omega arith)) in
    omega arith
