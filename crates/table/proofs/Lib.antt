-- What writing the table by sections shows, and what a cell's steps from list to list write.
pub mod Writing
pub mod Stepping
