-- The lines so far are those of the sections so far.
use Rattle.std.proofs.Common.{drop}
use Rattle.script_reader.specs.ReportTexts.{fed_lines}
use Rattle.audit_reader.specs.LastLines.{HaveCome, cursor_lines}
use Rattle.audit_reader.proofs.endings.first_bad_end.Given as goal

abbrev pub invariant-loop-i : goal.invariant-loop-i
invariant-loop-i l = HaveCome l.i (cursor_lines 0 l.cursors) (cursor_lines l.i (drop l.i l.cursors)) (fed_lines l.initial.unread) (fed_lines l.unread)
