-- What the plan of an update is, when there is none, and what its states give.
pub mod Plans
pub mod Refusals
pub mod Gives
pub mod Values
