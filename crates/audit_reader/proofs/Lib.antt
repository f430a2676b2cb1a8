mod Examples
pub mod Prefixes
pub mod WholeLines
pub mod LinesOfReports
pub mod EqualLines
pub mod HistoryLengths
pub mod OneMore
pub mod GoodLines
pub mod LegalReports
pub mod WholeReports
pub mod LastAnswers
pub mod Coming
pub mod Starting
pub mod AuditSteps
pub mod NextEvents
pub mod Fronts
pub mod Leading
