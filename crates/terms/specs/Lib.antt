pub mod Tells
pub mod Size
pub mod Told
pub mod Run
pub mod Refusal
