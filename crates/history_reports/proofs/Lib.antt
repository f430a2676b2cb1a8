pub mod SectionCursors
pub mod OnePass
pub mod WindowPlaces
pub mod LeftLines
mod WindowRows
pub mod NoCommands
pub mod ToldRuns
