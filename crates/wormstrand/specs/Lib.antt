pub mod Pack
pub mod Returned
