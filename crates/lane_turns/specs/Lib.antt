-- What turns of lanes mean: who has one, how the next is drawn, and the word that they share.
pub mod Lanes
pub mod Draws
pub mod Turns
pub mod Words
pub mod Reports
