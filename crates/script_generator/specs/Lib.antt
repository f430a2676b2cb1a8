-- Which scripts are generated, and what is told of their histories.
pub mod ScriptNumbers
pub mod GeneratedScripts
pub mod Summaries
pub mod SoakHistories
