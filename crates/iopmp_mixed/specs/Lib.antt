-- What the program that mixes lanes adds: its seeds, and how far a lane may be ahead.
pub mod Seeds
pub mod Aheads
pub mod LaneCounts
