pub mod Within
pub mod Stepping
pub mod Writing
