pub mod UnitLines
pub mod ReplayedReplies
pub mod BootWords
pub mod PlayedSections
pub mod MergedReplies
pub mod HistoryLengths
