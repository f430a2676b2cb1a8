-- The unit's line is the next one, or is not.
use Rattle.std.proofs.Common.{◌∙◌}
use Rattle.std.specs.List.{concat}
use Rattle.event_words.specs.ReportLines.{unit_line_of}
use Rattle.audit_reader.proofs.LinesOfReports.{unit_is_line}
use Rattle.audit_reader.proofs.WholeLines.{line_taken, line_begins}
use Rattle.audit_reader.proofs.endings.errors_are_next.Goals as goal

pub returns-clause-yes : goal.returns-clause-yes
returns-clause-yes c = λ t.
    line_taken c.args.unread.now c.bytes.result.now c.take.new.self (unit_line_of c.args.unit c.args.words) (c.bytes.ensures ∙ c.make_unit.ensures) (unit_is_line c.args.unit c.args.words) (c.take.ensures.yes t)

pub returns-clause-no : goal.returns-clause-no
returns-clause-no c = λ rest e.
    c.take.ensures.no (concat rest) (line_begins c.args.unread.now c.bytes.result.now (unit_line_of c.args.unit c.args.words) rest (c.bytes.ensures ∙ c.make_unit.ensures) e)
