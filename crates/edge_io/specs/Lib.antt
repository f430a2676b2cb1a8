-- What the streams and the memory at the edge of the program mean.
pub mod Adapters
pub mod Faults
pub mod Memory
pub mod Streams
