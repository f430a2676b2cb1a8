pub mod Puts
pub mod Order
pub mod Sections
pub mod Images
mod Rows
