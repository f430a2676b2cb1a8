-- What a report says of a history: the lines of its sections, of its units and of the windows, and one run of a script.
pub mod SectionEnds
pub mod Replays
pub mod Requesters
pub mod WindowLines
pub mod ReportedRuns
pub mod FaultReports
pub mod WantedReports
