-- What an access that goes through units in turn makes: its events, its answers and its stages.
pub mod Making
pub mod Answers
pub mod Chains
pub mod Stages
