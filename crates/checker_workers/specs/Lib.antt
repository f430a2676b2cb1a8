-- What callers of units cite: ports, tickets, lanes, and the pieces of a record that their commands make.
pub mod Ports
pub mod Told
pub mod TicketViews
pub mod Tickets
pub mod Slots
pub mod Pieces
pub mod Lanes
pub mod Trials
