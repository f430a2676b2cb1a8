-- Each kind of command makes its piece of the record.
use Rattle.std.proofs.Common.{Bool, false, not, sym, subst}
use Rattle.event_words.specs.declared.event.Event.TheVariants as events
use Rattle.event_words.specs.declared.reply.Reply.TheVariants as replies
use Rattle.event_words.specs.declared.section.Command.{Command}
use Rattle.checker_workers.specs.declared.pieces.RegisterPoll.{RegisterPoll}
use Rattle.checker_workers.specs.Pieces.{Polls, PlaysCommand}
use Rattle.checker_workers.proofs.Commands.{plays_write, plays_read, plays_submit_as, plays_until, plays_through}
use Rattle.checker_workers.proofs.pieces.play_command.Goals as goal

pub returns-in-Write-clause-plays : goal.returns-in-Write-clause-plays
returns-in-Write-clause-plays g c =
    subst (λ (k : Command). PlaysCommand c.args.port.now c.args.table.now.items k c.write.new.self c.args.table.now.items false) (sym c.in-Write.is)
    (plays_write c.args.port.now c.write.new.self c.args.table.now.items c.in-Write.unit c.in-Write.index c.in-Write.value (replies.Value c.write.result) c.write.ensures c.requires.tickets)

pub returns-in-Read-clause-plays : goal.returns-in-Read-clause-plays
returns-in-Read-clause-plays g c =
    subst (λ (k : Command). PlaysCommand c.args.port.now c.args.table.now.items k c.read.new.self c.args.table.now.items false) (sym c.in-Read.is)
    (plays_read c.args.port.now c.read.new.self c.args.table.now.items c.in-Read.unit c.in-Read.index (replies.Value c.read.result) c.read.ensures c.requires.tickets)

pub returns-in-Submit-clause-plays : goal.returns-in-Submit-clause-plays
returns-in-Submit-clause-plays g c =
    plays_submit_as c.args.port.now c.submit.new.port c.args.table.now.items c.push_reserved.new.self.items c.in-Submit.unit c.in-Submit.slot c.in-Submit.access c.submit.result c.args.command.now c.in-Submit.is
    (rw (← c.ticket_of-slot.ensures) c.push_reserved.ensures.items) c.submit.ensures.event c.requires.units c.submit.ensures.ticket c.requires.tickets

pub returns-in-Until-clause-plays : goal.returns-in-Until-clause-plays
returns-in-Until-clause-plays g c =
    let polled : Polls c.args.port.now (events.RegRead c.in-Until.unit c.args.port.now.number c.in-Until.index) c.in-Until.mask c.in-Until.value c.in-Until.max c.poll.result c.poll.new.port =
    subst (λ (w : RegisterPoll). Polls c.args.port.now (events.RegRead w.unit c.args.port.now.number w.index) w.mask w.value c.in-Until.max c.poll.result c.poll.new.port) c.new-watch.ensures c.poll.ensures in
    subst (λ (k : Command). PlaysCommand c.args.port.now c.args.table.now.items k c.poll.new.port c.args.table.now.items (not c.poll.result)) (sym c.in-Until.is)
    (plays_until c.args.port.now c.poll.new.port c.args.table.now.items c.in-Until.unit c.in-Until.index c.in-Until.mask c.in-Until.value c.in-Until.max c.poll.result polled c.requires.tickets)

pub returns-in-Through-clause-plays : goal.returns-in-Through-clause-plays
returns-in-Through-clause-plays g c =
    subst (λ (goes : Bool). PlaysCommand c.args.port.now c.args.table.now.items c.args.command.now c.send_through.new.self c.args.table.now.items (not goes)) (sym c.goes_on.ensures)
    (subst (λ (k : Command). PlaysCommand c.args.port.now c.args.table.now.items k c.send_through.new.self c.args.table.now.items false) (sym c.in-Through.is)
    (plays_through c.args.port.now c.send_through.new.self c.args.table.now.items c.in-Through.stages c.in-Through.access c.in-Through.max c.send_through.result c.send_through.ensures c.requires.tickets))
