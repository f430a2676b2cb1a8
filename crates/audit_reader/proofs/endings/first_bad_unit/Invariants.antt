-- The lines so far are those of the units so far.
use Rattle.std.proofs.Common.{drop}
use Rattle.script_reader.specs.ReportTexts.{fed_lines}
use Rattle.audit_reader.specs.ReportLines.{error_lines}
use Rattle.audit_reader.specs.LastLines.{HaveCome}
use Rattle.audit_reader.proofs.endings.first_bad_unit.Given as goal

abbrev pub invariant-loop-unit : goal.invariant-loop-unit
invariant-loop-unit l = HaveCome l.unit (error_lines 0 l.units.state.units) (error_lines l.unit (drop l.unit l.units.state.units)) (fed_lines l.initial.unread) (fed_lines l.unread)
