-- What callers of one log know: its words, their seats, and the rule that all steps keep.
pub mod Words
pub mod SeatViews
pub mod Rule
pub mod Exchanges
pub mod Callers
pub mod OwnEvents
pub mod Histories
pub mod Adding
pub mod Trials
