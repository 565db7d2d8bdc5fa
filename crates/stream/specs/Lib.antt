pub mod Totals
pub mod Carry
pub mod Streamed
