-- What the commands of a lane make.
use Rattle.std.specs.Prelude.{◌≡◌, ◌≢◌, ℕ, ◌+◌, ◌*◌, ◌<◌, ◌≤◌, Bool, false, Option, Some, None, List, ◌++◌, length}
use Rattle.std.specs.List.{list_any}
use Rattle.event_words.specs.declared.access.Access.{Access}
use Rattle.event_words.specs.declared.event.Event.{Event}
use Rattle.event_words.specs.declared.event.Event.TheVariants as events
use Rattle.event_words.specs.declared.record.LoggedEvent.{LoggedEvent}
use Rattle.event_words.specs.declared.section.Command.{Command}
use Rattle.event_words.specs.Sections.{most_events, submission_events}
use Rattle.event_words.specs.Records.{judgements, polls, piece, settle_piece, slot_of, through_stages, Cut}
use Rattle.unit_core.specs.Fabrics.{state_after_word, reply_to_word}
use Rattle.cascade_path.specs.declared.chain.ChainReply.{ChainReply}
use Rattle.cascade_path.specs.Making.{MakesEvents as CallerMakes}
use Rattle.cascade_path.specs.Answers.{chain_reply, is_odd}
use Rattle.checker_workers.specs.declared.ticket.Judged.{Judged}
use Rattle.checker_workers.specs.declared.ticket.Submitted.{Submitted}
use Rattle.checker_workers.specs.declared.ticket.Submitted.TheVariants.{Passed, Queued, Busy, Stalled}
use Rattle.checker_workers.specs.Ports.{PortView, EndWhole}
use Rattle.checker_workers.specs.TicketViews.{TicketView}
use Rattle.checker_workers.specs.Tickets.{is_end, judged_reply, HandsBack}
use Rattle.checker_workers.specs.Slots.{slots_of, IsTicketTable}

-- The port's caller made exactly these events more. Nothing else changed but its replica.
abbrev pub MakesEvents : PortView → List LoggedEvent → PortView → Type 0
MakesEvents p made q = CallerMakes state_after_word reply_to_word p made q

-- Up to `max` judgements of a ticket.
pub record SettlesTicket (p : PortView) (t : TicketView) (max : ℕ) (judged : Judged) (q : PortView) : Type 0 where
  pub made : List LoggedEvent
  pub adds : MakesEvents p made q
  pub whole : EndWhole made
  pub few : length made ≤ max
  pub record_is : (rest : List LoggedEvent) → judgements max (events.Judge t.unit t.caller t.place) (made ++ rest) ≡ Some (judged_reply judged, rest)
  pub others : (u : TicketView) → u.place ≢ t.place → list_any (is_end u) made ≡ false
  pub ticket : HandsBack q t judged

-- Up to `max` reads, the last of which hits or doesn't.
pub record Polls (p : PortView) (event : Event) (mask value max : ℕ) (hit : Bool) (q : PortView) : Type 0 where
  pub made : List LoggedEvent
  pub adds : MakesEvents p made q
  pub whole : EndWhole made
  pub few : length made ≤ max
  pub record_is : (rest : List LoggedEvent) → polls max event mask value (made ++ rest) ≡ Some (hit, rest)
  pub others : (u : TicketView) → list_any (is_end u) made ≡ false

-- The events of an access that is sent through these units, with up to `max` judgements at each. They
-- tell the answer, which is never odd, and they end no ticket of a submission before them.
pub record PlaysThrough (p : PortView) (stages : List ℕ) (access : Access) (max : ℕ) (answer : ChainReply) (q : PortView) : Type 0 where
  pub made : List LoggedEvent
  pub adds : MakesEvents p made q
  pub whole : EndWhole made
  pub few : length made ≤ length stages * (submission_events access + max)
  pub record_is : (rest : List LoggedEvent) → through_stages p.number max access stages access.rrid (made ++ rest) ≡ Some rest
  pub decided : chain_reply made ≡ Some answer
  pub never_odd : is_odd answer ≡ false
  pub others : (u : TicketView) → u.place < length p.log → list_any (is_end u) made ≡ false

abbrev pub cut_to : List (Option TicketView) → Bool → List LoggedEvent → Cut
cut_to table stops rest = record { slots = slots_of table; rest = rest; stops = stops }

-- The judgements of a slot, of which there are up to `max` where it has a ticket.
pub record PlaysSlot (p : PortView) (table : List (Option TicketView)) (i max : ℕ) (q : PortView) (after : List (Option TicketView)) : Type 0 where
  pub made : List LoggedEvent
  pub adds : MakesEvents p made q
  pub whole : EndWhole made
  pub few : length made ≤ max
  pub record_is : (rest : List LoggedEvent) → settle_piece p.number max (slots_of table) i (slot_of (slots_of table) i) (made ++ rest) ≡ Some (cut_to after false rest)
  pub tickets : IsTicketTable q after

-- A command's piece. The table's tickets become those of the other table.
pub record PlaysCommand (p : PortView) (table : List (Option TicketView)) (command : Command) (q : PortView) (after : List (Option TicketView)) (stops : Bool) : Type 0 where
  pub made : List LoggedEvent
  pub adds : MakesEvents p made q
  pub whole : EndWhole made
  pub few : length made ≤ most_events command
  pub record_is : (rest : List LoggedEvent) → piece p.number (slots_of table) command (made ++ rest) ≡ Some (cut_to after stops rest)
  pub tickets : IsTicketTable q after

-- the ticket that a submission hands out
abbrev pub ticket_of : Submitted → Option TicketView
ticket_of (Passed t) = Some t
ticket_of (Queued t) = Some t
ticket_of Busy = None
ticket_of (Stalled denial) = None
