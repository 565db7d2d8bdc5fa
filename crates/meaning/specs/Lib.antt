-- What a reader must believe, in the order of document 01.
pub mod Table
pub mod Cells
pub mod Soundness
pub mod Turning
pub mod Day
pub mod Calls
pub mod Stream
pub mod Promise
