-- Laws for the public calls.
pub mod Promising
