-- What a reader must believe of the demands.
pub mod History
pub mod Demands
pub mod Tables
pub mod Own
pub mod Unstopped
pub mod Streaming
pub mod Entry
pub mod Promised
pub mod InTurn
