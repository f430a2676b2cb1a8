-- Tickets of submissions that are open.
use Rattle.std.specs.Prelude.{◌≡◌, ℕ, ◌==◌, ◌&&◌, nat_lt, length, ◌++◌, ◌-◌, Bool, true, false, Option, Some, None, find, slice_get, List}
use Rattle.std.specs.List.{list_any}
use Rattle.event_words.specs.declared.access.Access.{Access}
use Rattle.event_words.specs.declared.event.Event.{Event}
use Rattle.event_words.specs.declared.event.Event.TheVariants as events
use Rattle.event_words.specs.declared.reply.Reply.{Reply}
use Rattle.event_words.specs.declared.reply.Reply.TheVariants as replies
use Rattle.event_words.specs.declared.record.LoggedEvent.{LoggedEvent}
use Rattle.event_words.specs.Events.{same_event}
use Rattle.event_words.specs.Records.{is_taken, is_verdict, is_held, wide_event}
use Rattle.event_words.specs.Valid.{is_narrow}
use Rattle.unit_core.specs.declared.Submission.{Submission}
use Rattle.unit_core.specs.Submissions.{is_item}
use Rattle.unit_core.specs.Units.{UnitState}
use Rattle.checker_workers.specs.declared.ticket.Submitted.{Submitted}
use Rattle.checker_workers.specs.declared.ticket.Submitted.TheVariants.{Passed, Queued, Busy, Stalled}
use Rattle.checker_workers.specs.declared.ticket.Judged.{Judged}
use Rattle.checker_workers.specs.declared.ticket.Judged.TheVariants.{Done, Held}
use Rattle.checker_workers.specs.Ports.{PortView, port_events, units_after, MakesEvent}
use Rattle.checker_workers.specs.TicketViews.{TicketView}

abbrev pub submits_on : ℕ → ℕ → Event → Bool
submits_on unit caller (events.Submit u c access) = (u == unit) && (c == caller)
submits_on unit caller (events.Wide u c rrid kind len) = (u == unit) && (c == caller)
submits_on unit caller _ = false

-- the ticket's submission, which was taken
abbrev pub is_ticket_submission : TicketView → LoggedEvent → Bool
is_ticket_submission t x = (x.place == t.place) && (submits_on t.unit t.caller x.event && is_taken x.reply)

-- a judgement of the ticket's submission, after it, that gave a verdict
abbrev pub is_end : TicketView → LoggedEvent → Bool
is_end t x = nat_lt t.place x.place && (same_event (events.Judge t.unit t.caller t.place) x.event && is_verdict x.reply)

-- The ticket is the port's, its submission was taken, and there was no verdict on it.
pub record IsOpenTicket (p : PortView) (t : TicketView) : Type 0 where
  pub caller : t.caller ≡ p.number
  pub taken : list_any (is_ticket_submission t) (port_events p) ≡ true
  pub open_still : list_any (is_end t) (port_events p) ≡ false

-- ---- whether a submission waits in the queue

abbrev pub item_waits : Option Submission → Bool
item_waits None = false
item_waits (Some item) = item.queued

abbrev pub unit_queues : ℕ → ℕ → Option UnitState → Bool
unit_queues place caller None = false
unit_queues place caller (Some unit) = item_waits (find (is_item place caller) unit.submissions)

-- The queue of the ticket's unit has its submission.
abbrev pub is_in_queue : TicketView → List UnitState → Bool
is_in_queue t units = unit_queues t.place t.caller (slice_get units t.unit)

-- ---- what a submission and a judgement answer

-- the reply that an answer stands for
abbrev pub submitted_reply : Submitted → Reply
submitted_reply (Passed t) = replies.Passed
submitted_reply (Queued t) = replies.Queued
submitted_reply Busy = replies.Busy
submitted_reply (Stalled denial) = replies.Stalled denial

-- what a unit replies to a submission
abbrev pub is_submit_reply : Reply → Bool
is_submit_reply replies.Passed = true
is_submit_reply replies.Queued = true
is_submit_reply replies.Busy = true
is_submit_reply (replies.Stalled denial) = true
is_submit_reply _ = false

abbrev pub judged_reply : Judged → Reply
judged_reply (Done verdict) = replies.Verdict verdict
judged_reply (Held t) = replies.Held

-- the ticket of the last event of the port's log
abbrev pub last_ticket : PortView → ℕ → TicketView
last_ticket p unit = record { unit = unit; place = length p.log - 1; caller = p.number }

-- A ticket that is answered is that of the last event.
abbrev pub BearsTicket : PortView → ℕ → Submitted → Type 0
BearsTicket p unit (Passed t) = t ≡ last_ticket p unit
BearsTicket p unit (Queued t) = t ≡ last_ticket p unit
BearsTicket p unit Busy = Unit {0}
BearsTicket p unit (Stalled denial) = Unit {0}

-- The ticket that a submission on this unit hands out is that of the port's last event, and it is open.
abbrev pub HandsOut : PortView → ℕ → Submitted → Type 0
HandsOut p unit (Passed t) = (t ≡ last_ticket p unit) × IsOpenTicket p t
HandsOut p unit (Queued t) = (t ≡ last_ticket p unit) × IsOpenTicket p t
HandsOut p unit Busy = Unit {0}
HandsOut p unit (Stalled denial) = Unit {0}

-- Two events of the port's caller: an Aim of the access's address, which is replied so, and a Wide.
pub record MakesWide (p : PortView) (unit : ℕ) (access : Access) (reply : Reply) (q : PortView) : Type 0 where
  pub between : PortView
  pub aim : MakesEvent p (events.Aim p.number access.addr) replies.Aimed between
  pub wide : MakesEvent between (wide_event unit p.number access) reply q

-- A narrow access is submitted by one event, and any other by two.
abbrev pub MakesByWidth : Bool → PortView → ℕ → Access → Reply → PortView → Type 0
MakesByWidth true p unit access reply q = MakesEvent p (events.Submit unit p.number access) reply q
MakesByWidth false p unit access reply q = MakesWide p unit access reply q

-- A submission of the access, and the reply to its last event.
abbrev pub MakesSubmission : PortView → ℕ → Access → Reply → PortView → Type 0
MakesSubmission p unit access reply q = MakesByWidth (is_narrow access) p unit access reply q

-- The ticket that a judgement hands back is the same, and it is open.
abbrev pub HandsBack : PortView → TicketView → Judged → Type 0
HandsBack p t (Done verdict) = Unit {0}
HandsBack p t (Held again) = (again ≡ t) × IsOpenTicket p t

-- One judgement of the ticket's submission. It replies Held exactly where the queue of the unit has
-- the submission at the judgement's place.
pub record Judges (p : PortView) (t : TicketView) (judged : Judged) (q : PortView) : Type 0 where
  pub event : MakesEvent p (events.Judge t.unit t.caller t.place) (judged_reply judged) q
  pub held : is_held (judged_reply judged) ≡ is_in_queue t (units_after p (p.log ++ event.between))
  pub ticket : HandsBack q t judged
