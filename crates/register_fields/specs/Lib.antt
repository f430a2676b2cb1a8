-- What the words of tables mean: their bits, their rights, and where registers stand.
pub mod Tables
pub mod Rights
pub mod Places
