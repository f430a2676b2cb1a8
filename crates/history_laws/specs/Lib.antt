-- What every legal history has: verdicts, windows, guards, tickets and Busy, as the laws say it.
pub mod Queues
pub mod Aims
pub mod NothingFound
pub mod Windows
pub mod Guards
pub mod Tickets
pub mod Verdicts
pub mod Busy
pub mod Laws
pub mod Lengths
pub mod OneHistory
pub mod EqualReports
pub mod Live
pub mod Unwritten
