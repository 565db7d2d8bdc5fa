-- The laws that other crates use in the place of the definitions' text.
pub mod Parts
pub mod Readings
pub mod RoundTrip
