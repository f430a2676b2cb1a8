-- The answer is written, or a prefix of it.
use Rattle.std.proofs.Common.{sym, subst}
use Rattle.command_answers.specs.CommandTables.{Gives}
use Rattle.iopmp_program.specs.CallEndings.{change, IsInput}
use Rattle.iopmp_program.proofs.WrittenAnswers.{ends_given, leaves_none}
use Rattle.iopmp_program.proofs.program.call_command.Goals as goal

pub returns-clause-ends : goal.returns-clause-ends
returns-clause-ends g c =
    let source = change g.S.Source.left g.S.Source.faults c.args.source.now c.read_input.new.source in
    let sink = change g.K.Sink.taken g.K.Sink.faults c.args.sink.now c.write_answer-2.new.sink in
    ends_given c.args.command source sink c.in-Ok-answer.given.status c.in-Ok-answer.given.history c.deref.result.now c.deref-2.result.now c.write_answer-2.result.status c.write_answer-2.result.history
    (subst (IsInput c.args.command source) (sym c.deref.ensures.value) c.in-Ok.ensures.read.input)
    (subst (Gives c.args.command c.deref.result.now c.in-Ok-answer.given.status c.in-Ok-answer.given.history) (sym c.deref-2.ensures.value) c.in-Ok-answer.ensures)
    c.write_answer-2.ensures

pub returns-clause-unwritten : goal.returns-clause-unwritten
returns-clause-unwritten g c = λ l.
    let source = change g.S.Source.left g.S.Source.faults c.args.source.now c.read_input.new.source in
    let sink = change g.K.Sink.taken g.K.Sink.faults c.args.sink.now c.write_answer-2.new.sink in
    absurd (leaves_none c.args.command source sink c.in-Ok-answer.given.status c.in-Ok-answer.given.history c.deref.result.now c.deref-2.result.now c.write_answer-2.result.status c.write_answer-2.result.history
    (subst (IsInput c.args.command source) (sym c.deref.ensures.value) c.in-Ok.ensures.read.input)
    (subst (Gives c.args.command c.deref.result.now c.in-Ok-answer.given.status c.in-Ok-answer.given.history) (sym c.deref-2.ensures.value) c.in-Ok-answer.ensures)
    c.write_answer-2.ensures l)
