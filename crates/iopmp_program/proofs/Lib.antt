pub mod WrittenAnswers
pub mod Completeness
pub mod CommandLaws
