-- The last line is the next one, or is not.
use Rattle.std.proofs.Common.{codes, refl}
use Rattle.std.specs.List.{concat}
use Rattle.audit_reader.proofs.LinesOfReports.{last_is_line}
use Rattle.audit_reader.proofs.WholeLines.{line_taken, line_begins}
use Rattle.audit_reader.proofs.endings.last_is_next.Goals as goal

pub returns-clause-yes : goal.returns-clause-yes
returns-clause-yes c = λ t. line_taken c.args.unread.now (codes "end\n") c.take.new.self (codes "end\n") refl last_is_line (c.take.ensures.yes t)

pub returns-clause-no : goal.returns-clause-no
returns-clause-no c = λ rest e. c.take.ensures.no (concat rest) (line_begins c.args.unread.now (codes "end\n") (codes "end\n") rest refl e)
