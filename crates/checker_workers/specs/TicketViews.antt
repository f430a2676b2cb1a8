-- What contracts see of a ticket.
use Rattle.std.specs.Prelude.{ℕ}

-- The submission of this caller on this unit at this place.
pub record TicketView : Type 0 where
  pub unit : ℕ
  pub place : ℕ
  pub caller : ℕ
