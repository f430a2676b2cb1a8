-- The line's caller is awaited with an event, whose line it is or is not.
use Rattle.std.proofs.Common.{ℕ, Option, ap, subst, ◌∙◌, arith}
use Rattle.std.specs.List.{concat}
use Rattle.event_words.specs.declared.event.Event.{Event}
use Rattle.event_words.specs.declared.record.LoggedEvent.{LoggedEvent}
use Rattle.unit_core.specs.Fabrics.{state_after_word, reply_to_word}
use Rattle.event_words.specs.ReportLines.{event_line}
use Rattle.event_words.specs.Word.{event_of_word}
use Rattle.event_words.proofs.Runs.{event_of_word-word_of}
use Rattle.audit_reader.specs.Following.{Awaits}
use Rattle.audit_reader.proofs.LinesOfReports.{event_is_line}
use Rattle.audit_reader.proofs.AuditSteps.{Finds, no_caller, none_awaited, other_awaited, good_step, awaited_valid}
use Rattle.audit_reader.proofs.WholeLines.{line_taken, line_begins}
use Rattle.audit_reader.proofs.auditing.event_is_right.Goals as goal

pub returns-in_default-clause-answer : goal.returns-in_default-clause-answer
returns-in_default-clause-answer c = λ script words s k.
    no_caller script words c.args.unread.now c.args.units.now.state c.args.cursors.now c.args.place c.requires.few s k
    (subst (λ (o : Option ℕ). Finds o c.args.unread.now c.args.place) c.in_default.is (λ x rest p q e. c.caller_in.ensures.line x rest p q (c.bytes.ensures ∙ e)))

pub returns-in_default-awaited-clause-answer : goal.returns-in_default-awaited-clause-answer
returns-in_default-awaited-clause-answer c = λ script words s k.
    none_awaited script words c.args.unread.now c.args.units.now.state c.args.cursors.now c.args.place c.in-Some.caller c.requires.few s k
    (subst (λ (o : Option ℕ). Finds o c.args.unread.now c.args.place) c.in-Some.is (λ x rest p q e. c.caller_in.ensures.line x rest p q (c.bytes.ensures ∙ e)))
    (subst (λ (o : Option Event). Awaits c.args.cursors.now c.in-Some.caller o) c.in_default-awaited.is c.awaited.ensures)

pub pack-word-requires : goal.pack-word-requires
pack-word-requires c =
    let seen = c.requires.seen in
    awaited_valid seen.0 seen.1 c.args.units.now.state c.args.cursors.now c.in-Some.caller c.in-Some-awaited.event seen.2
    (subst (λ (o : Option Event). Awaits c.args.cursors.now c.in-Some.caller o) c.in-Some-awaited.is c.awaited.ensures)

pub set-requires : goal.set-requires
set-requires c =
    let seen = c.requires.seen in
    let valid = awaited_valid seen.0 seen.1 c.args.units.now.state c.args.cursors.now c.in-Some.caller c.in-Some-awaited.event seen.2
    (subst (λ (o : Option Event). Awaits c.args.cursors.now c.in-Some.caller o) c.in-Some-awaited.is c.awaited.ensures) in
    ap event_of_word c.pack-word.ensures.word ∙ event_of_word-word_of c.in-Some-awaited.event valid

pub returns-then-not-take-clause-answer : goal.returns-then-not-take-clause-answer
returns-then-not-take-clause-answer c = λ script words s k.
    other_awaited script words c.args.unread.now c.args.units.now.state c.args.cursors.now c.args.place c.in-Some.caller c.in-Some-awaited.event c.apply-reply.result c.requires.few s k
    (subst (λ (o : Option ℕ). Finds o c.args.unread.now c.args.place) c.in-Some.is (λ x rest p q e. c.caller_in.ensures.line x rest p q (c.bytes.ensures ∙ e)))
    (subst (λ (o : Option Event). Awaits c.args.cursors.now c.in-Some.caller o) c.in-Some-awaited.is c.awaited.ensures)
    (c.apply-reply.ensures.reply ∙ ap (λ w. reply_to_word c.args.units.now.state c.args.place w) c.pack-word.ensures.word)
    (λ others l.
    let t = c.take.ensures.no (concat others) (line_begins c.args.unread.now c.bytes-2.result.now _ others (c.bytes-2.ensures ∙ ap event_line c.set.ensures) l) in
    let f = c.if-not-take.true in
    cc)

pub returns-clause-answer : goal.returns-clause-answer
returns-clause-answer c = λ script words s k.
    let m = c.requires.room in
    let most = c.requires.most in
    let x : LoggedEvent = record { place = c.args.place; event = c.in-Some-awaited.event; reply = c.apply-reply.result } in
    good_step script words c.args.units.now.state c.apply-reply.new.self.state c.args.cursors.now c.in-Some.caller c.args.place c.in-Some-awaited.event c.apply-reply.result c.args.unread.now c.take.new.self
    c.note.new.self c.index-cursors-caller.result s k
    (subst (λ (o : Option Event). Awaits c.args.cursors.now c.in-Some.caller o) c.in-Some-awaited.is c.awaited.ensures)
    (c.apply-reply.ensures.state ∙ ap (λ w. state_after_word c.args.units.now.state c.args.place w) c.pack-word.ensures.word)
    (c.apply-reply.ensures.reply ∙ ap (λ w. reply_to_word c.args.units.now.state c.args.place w) c.pack-word.ensures.word)
    (line_taken c.args.unread.now c.bytes-2.result.now c.take.new.self (event_line x) (c.bytes-2.ensures ∙ ap event_line c.set.ensures) (event_is_line x) (c.take.ensures.yes c.if-not-take.false))
    (record { number = c.note.ensures.caller; rest = c.note.ensures.rest; tries = c.note.ensures.tries; valid = c.note.ensures.valid (omega (arith, m, most)) })
