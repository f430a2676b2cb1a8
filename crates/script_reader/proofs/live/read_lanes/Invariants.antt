-- The lines that are left give what all of them give.
use Rattle.std.proofs.Common.{◌≡◌, ◌+◌, ◌≤◌, true, length}
use Rattle.script_reader.specs.LiveLanes.{IsLiveState, lanes_from, lanes_at}
use Rattle.std.specs.List.{AllByRecursion}
use Rattle.script_reader.specs.Text.{IsPlainLine}
use Rattle.script_reader.specs.Sound.{IsSound}
use Rattle.script_reader.proofs.live.read_lanes.Given as goal

abbrev pub invariant-loop-line : goal.invariant-loop-line
invariant-loop-line l =
    (lanes_from l.reader l.number l.lines ≡ lanes_at l.first_line l.bytes)
    × (l.number + length l.lines ≤ l.first_line + (length l.bytes + 1))
    × (length l.reader.section.commands + length l.lines ≤ length l.bytes + 1)
    × IsSound l.reader
    × (l.plain ≡ true → AllByRecursion IsPlainLine l.lines)
    × IsLiveState l.reader

abbrev pub decreases-loop-line : goal.decreases-loop-line
decreases-loop-line l = length l.lines
