-- Laws for the stream.
pub mod Carrying
pub mod Stepping
pub mod Streaming
pub mod Promising
