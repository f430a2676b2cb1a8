pub mod ToldCodes
pub mod UpdateRefusals
pub mod ScriptsBeside
pub mod CommandAnswers
pub mod Accepted
pub mod GivenStatuses
pub mod ReadBack
