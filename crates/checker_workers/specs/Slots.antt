-- The slots of a lane: for each submission of its section so far, the ticket where it is open.
use Rattle.std.specs.Prelude.{◌≡◌, ℕ, ◌<◌, Option, Some, None, List, length, map, slice_index_or}
use Rattle.event_words.specs.Records.{OpenSlot}
use Rattle.checker_workers.specs.Ports.{PortView, unit_count}
use Rattle.checker_workers.specs.TicketViews.{TicketView}
use Rattle.checker_workers.specs.Tickets.{IsOpenTicket}

abbrev pub slot_of_ticket : Option TicketView → Option OpenSlot
slot_of_ticket None = None
slot_of_ticket (Some t) = Some (record { unit = t.unit; place = t.place })

-- the slots that tickets stand for
abbrev pub slots_of : List (Option TicketView) → List (Option OpenSlot)
slots_of table = map slot_of_ticket table

-- The port may judge the ticket now.
pub record IsJudgeable (p : PortView) (t : TicketView) : Type 0 where
  pub ticket : IsOpenTicket p t
  pub unit : t.unit < unit_count p
  pub past : t.place < length p.log

-- The port may judge each ticket of the table, and no two of them are of one place.
pub record IsTicketTable (p : PortView) (table : List (Option TicketView)) : Type 0 where
  pub each : (i : ℕ) (t : TicketView) → slice_index_or table i None ≡ Some t → IsJudgeable p t
  pub apart : (i j : ℕ) (t u : TicketView) → slice_index_or table i None ≡ Some t → slice_index_or table j None ≡ Some u → t.place ≡ u.place → i ≡ j
