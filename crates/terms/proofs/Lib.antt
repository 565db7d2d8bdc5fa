-- The laws that other crates use in the place of the definitions' text.
pub mod Names
pub mod Told
pub mod Sizes
pub mod Steps
