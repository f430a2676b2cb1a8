-- What a policy means: its text, its members, what it gives to whom, and its image in the registers.
pub mod Policies
pub mod Paths
pub mod Tables
pub mod Rules
pub mod Reading
pub mod Gives
pub mod Decides
pub mod Images
pub mod Needs
pub mod Fitting
pub mod Laws
pub mod Commands
