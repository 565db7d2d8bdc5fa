pub mod Cell
pub mod Turning
pub mod Join
