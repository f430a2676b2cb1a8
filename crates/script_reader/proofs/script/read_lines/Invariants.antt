-- The lines that are left give what all of them give.
use Rattle.std.proofs.Common.{◌≡◌, ◌+◌, ◌≤◌, true, length}
use Rattle.script_reader.specs.Scripts.{script_at, lines_from}
use Rattle.std.specs.List.{AllByRecursion}
use Rattle.script_reader.specs.Text.{IsPlainLine}
use Rattle.script_reader.specs.Sound.{IsSound}
use Rattle.script_reader.proofs.script.read_lines.Given as goal

abbrev pub invariant-loop-line : goal.invariant-loop-line
invariant-loop-line l =
    (lines_from l.reader l.number l.lines ≡ script_at l.bytes)
    × (l.number + length l.lines ≤ length l.bytes + 2)
    × (length l.reader.section.commands + length l.lines ≤ length l.bytes + 1)
    × IsSound l.reader
    × (l.plain ≡ true → AllByRecursion IsPlainLine l.lines)

abbrev pub decreases-loop-line : goal.decreases-loop-line
decreases-loop-line l = length l.lines
