use Rattle.std.proofs.Common.{arith}
use Rattle.history_reports.proofs.SectionCursors.{noted, unnoted}
use Rattle.history_reports.proofs.cursors.note.Goals as goal

pub returns-then-caller-cursors-clause-ends : goal.returns-then-caller-cursors-clause-ends
returns-then-caller-cursors-clause-ends c = λ left.
    noted c.args.cursors.now 0 c.caller-caller.result c.index-cursors-caller.result c.note.new.self c.args.logged.now left (omega arith) c.if-caller-cursors.true
    c.note.ensures.rest

pub returns-else-caller-cursors-clause-ends : goal.returns-else-caller-cursors-clause-ends
returns-else-caller-cursors-clause-ends c = λ left. unnoted c.args.cursors.now 0 c.args.logged.now left (omega arith)
