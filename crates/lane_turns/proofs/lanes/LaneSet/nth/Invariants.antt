-- What is left to walk over gives the lane.
use Rattle.std.proofs.Common.{◌≡◌, slice_get}
use Rattle.lane_turns.specs.Lanes.{members_from, members}
use Rattle.lane_turns.proofs.lanes.LaneSet.nth.Given as goal

abbrev pub invariant-loop-lane : goal.invariant-loop-lane
invariant-loop-lane l = slice_get (members_from l.self l.lane) l.left ≡ slice_get (members l.self) l.number
