-- A judgement of an open ticket replies a verdict or is held, and nothing else.
use Rattle.std.proofs.Common.{subst}
use Rattle.event_words.specs.Valid.{IsValidEvent}
use Rattle.checker_workers.specs.Ports.{MakesEvent}
use Rattle.checker_workers.specs.TicketViews.{TicketView}
use Rattle.checker_workers.proofs.Standing.{judgement}
use Rattle.checker_workers.proofs.Judging.{judged_done, judged_held, judged_only}
use Rattle.checker_workers.proofs.port.Port.judge.Goals as goal

pub make-requires-clause-event : goal.make-requires-clause-event
make-requires-clause-event c = let i = c.ticket.invariant in (record { unit_below = i.0; caller_below = i.2 }, i.1)

pub returns-in-Verdict : goal.returns-in-Verdict
returns-in-Verdict c =
    judged_done c.args.self.now c.make.new.self c.args.ticket c.make.result c.in-Verdict.verdict
    (subst (λ (t : TicketView). MakesEvent c.args.self.now (judgement t) c.make.result c.make.new.self) c.ticket.view_is c.make.ensures.event) c.requires.unit c.in-Verdict.is

pub returns-in-Held : goal.returns-in-Held
returns-in-Held c =
    judged_held c.args.self.now c.make.new.self c.args.ticket c.make.result
    (subst (λ (t : TicketView). MakesEvent c.args.self.now (judgement t) c.make.result c.make.new.self) c.ticket.view_is c.make.ensures.event) c.requires.unit c.requires.ticket c.in-Held.is

pub unreachable-requires : goal.unreachable-requires
unreachable-requires c =
    let i = c.ticket.invariant in
    let valid = subst (λ (t : TicketView). IsValidEvent (judgement t)) c.ticket.view_is (record { unit_below = i.0; caller_below = i.2 }, i.1) in
    judged_only c.args.self.now c.make.new.self c.args.ticket c.make.result
    (subst (λ (t : TicketView). MakesEvent c.args.self.now (judgement t) c.make.result c.make.new.self) c.ticket.view_is c.make.ensures.event) c.make.ensures.reset c.make.ensures.words valid c.requires.ticket c.in_default.not-Verdict c.in_default.not-Held
