pub mod Bucket
pub mod Judging
