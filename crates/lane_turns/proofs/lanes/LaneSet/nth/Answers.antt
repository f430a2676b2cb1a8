use Rattle.std.proofs.Common.{◌≡◌, ◌+◌, ◌<◌, Some, slice_get, arith, ap, sym, ◌∙◌}
use Rattle.lane_turns.specs.Lanes.{members_from}
use Rattle.lane_turns.proofs.Members.{member_here, member_past, members_end, get_next}
use Rattle.lane_turns.proofs.lanes.LaneSet.nth.Goals.{then-has+else-left-eq0, else-has}
use Rattle.lane_turns.proofs.lanes.LaneSet.nth.Goals as goal

pub returns-then-left-eq0-clause-lane : goal.returns-then-left-eq0-clause-lane
returns-then-left-eq0-clause-lane c =
    let e = member_here c.args.self c.loop-lane.lane c.loop-lane-test.true (sym c.has.ensures ∙ c.if-has.true) in
    let first : slice_get (members_from c.args.self c.loop-lane.lane) 0 ≡ Some c.loop-lane.lane = ap (λ l. slice_get l 0) e in
    sym first ∙ (ap (slice_get (members_from c.args.self c.loop-lane.lane)) (sym c.if-left-eq0.true) ∙ c.loop-lane.invariant)

pub returns-clause-lane : goal.returns-clause-lane
returns-clause-lane c =
    let e = members_end c.args.self c.loop-lane.lane (omega arith) in
    sym (ap (λ l. slice_get l c.loop-lane.left) e) ∙ c.loop-lane.invariant

pub loop-lane-preserved : goal.loop-lane-preserved
loop-lane-preserved c = elim c.if-has.branch [
  | then-has+else-left-eq0 w ↦
      let e = member_here c.args.self c.loop-lane.lane c.loop-lane-test.true (sym c.has.ensures ∙ w.if-has.true) in
      let some : 0 < c.loop-lane.left = omega arith in
      ap (slice_get (members_from c.args.self (c.loop-lane.lane + 1))) w.left-is
      ∙ (sym (get_next c.loop-lane.lane (members_from c.args.self (c.loop-lane.lane + 1)) c.loop-lane.left some)
      ∙ (sym (ap (λ l. slice_get l c.loop-lane.left) e) ∙ c.loop-lane.invariant))
  | else-has w ↦
      let e = member_past c.args.self c.loop-lane.lane c.loop-lane-test.true (sym c.has.ensures ∙ w.if-has.false) in
      ap (slice_get (members_from c.args.self (c.loop-lane.lane + 1))) w.left-is
      ∙ (sym (ap (λ l. slice_get l c.loop-lane.left) e) ∙ c.loop-lane.invariant)
]
