-- The lanes so far and those that are left are all.
use Rattle.std.proofs.Common.{◌≡◌, ◌≤◌, ◌+◌, length}
use Rattle.lane_turns.specs.Lanes.{members_from, members}
use Rattle.lane_turns.proofs.lanes.LaneSet.count.Given as goal

abbrev pub invariant-loop-lane : goal.invariant-loop-lane
invariant-loop-lane l = (l.count + length (members_from l.self l.lane) ≡ length (members l.self)) × (l.count + 1 ≤ l.lane)
