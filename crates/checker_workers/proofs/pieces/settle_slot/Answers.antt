-- A slot without a ticket, and one whose ticket is settled or held.
use Rattle.std.proofs.Common.{List, Option, sym, ◌∙◌, subst}
use Rattle.checker_workers.specs.declared.ticket.Judged.{Judged}
use Rattle.checker_workers.specs.TicketViews.{TicketView}
use Rattle.checker_workers.specs.Pieces.{SettlesTicket, PlaysSlot}
use Rattle.checker_workers.proofs.Commands.{plays_no_ticket, plays_done, plays_held}
use Rattle.checker_workers.proofs.pieces.settle_slot.Goals as goal

pub returns-in_default : goal.returns-in_default
returns-in_default g c =
    subst (λ (ts : List (Option TicketView)). PlaysSlot c.args.port.now c.args.table.now c.args.slot c.args.max c.args.port.now ts) (sym c.take_ticket.ensures.rest)
    (plays_no_ticket c.args.port.now c.args.table.now c.args.slot c.args.max (sym c.take_ticket.ensures.ticket ∙ c.in_default.is) c.requires.tickets)

pub settle-requires-clause-unit : goal.settle-requires-clause-unit
settle-requires-clause-unit g c = (c.requires.tickets.each c.args.slot c.in-Some.ticket (sym c.take_ticket.ensures.ticket ∙ c.in-Some.is)).unit

pub settle-requires-clause-ticket : goal.settle-requires-clause-ticket
settle-requires-clause-ticket g c = (c.requires.tickets.each c.args.slot c.in-Some.ticket (sym c.take_ticket.ensures.ticket ∙ c.in-Some.is)).ticket

pub returns-in-Held : goal.returns-in-Held
returns-in-Held g c =
    let done : PlaysSlot c.args.port.now c.args.table.now c.args.slot c.args.max c.settle.new.port _ =
    plays_held c.args.port.now c.settle.new.port c.args.table.now c.args.slot c.args.max c.in-Some.ticket c.in-Held.again (sym c.take_ticket.ensures.ticket ∙ c.in-Some.is) c.requires.tickets
    (subst (λ (j : Judged). SettlesTicket c.args.port.now c.in-Some.ticket c.args.max j c.settle.new.port) c.in-Held.is c.settle.ensures) in
    rw (c.put_ticket.ensures, c.take_ticket.ensures.rest) done

pub returns-in_default-settle : goal.returns-in_default-settle
returns-in_default-settle g c =
    subst (λ (ts : List (Option TicketView)). PlaysSlot c.args.port.now c.args.table.now c.args.slot c.args.max c.settle.new.port ts) (sym c.take_ticket.ensures.rest)
    (plays_done c.args.port.now c.settle.new.port c.args.table.now c.args.slot c.args.max c.in-Some.ticket c.in_default-settle.field-0 (sym c.take_ticket.ensures.ticket ∙ c.in-Some.is) c.requires.tickets
    (subst (λ (j : Judged). SettlesTicket c.args.port.now c.in-Some.ticket c.args.max j c.settle.new.port) c.in_default-settle.is c.settle.ensures))
