-- Laws of packed answers: none is lost, every number that a call returns is small, a contract allows one outcome, and the demands are
-- said of the numbers.
pub mod Packing
pub mod Small
pub mod Returning
pub mod Streams
pub mod Tight
pub mod Returned
