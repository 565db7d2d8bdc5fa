-- Laws for the searches.
pub mod Finding
pub mod Naming
pub mod Touching
