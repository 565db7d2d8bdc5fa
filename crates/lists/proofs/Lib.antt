-- Laws for cells that move from list to list.
pub mod Shifting
pub mod Handling
pub mod Turns
pub mod Joining
