-- What a call of the program gives: which words are a command, and how it ends.
pub mod CommandWords
pub mod FaultLines
pub mod CallEndings
pub mod StreamEdges
