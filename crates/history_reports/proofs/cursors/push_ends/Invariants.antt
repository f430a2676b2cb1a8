-- What is written and the lines of the sections that are left are the lines of all of them.
use Rattle.std.proofs.Common.{◌≡◌, ◌++◌, [], drop}
use Rattle.history_reports.specs.SectionEnds.{cursor_ends, end_lines}
use Rattle.history_reports.proofs.cursors.push_ends.Given as goal

abbrev pub invariant-loop-i : goal.invariant-loop-i
invariant-loop-i l = l.out.items ++ end_lines l.i (cursor_ends l.i (drop l.i l.cursors) []) ≡ l.initial.out.items ++ end_lines 0 (cursor_ends 0 l.cursors [])
