-- A script that is played, and what the units tell of its history.
pub mod ToldHistories
pub mod KeptReplies
pub mod MergedReplies
pub mod PlayedSections
