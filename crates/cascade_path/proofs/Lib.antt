pub mod Making
pub mod Repeats
pub mod Turns
pub mod Judging
pub mod Causes
pub mod Submitting
pub mod Submits
pub mod Stages
pub mod Passing
pub mod LastStage
pub mod Rows
mod AimRows
