-- What the name test's buckets show, what `all` answers, and that sizes and a table have one answer only.
pub mod Buckets
pub mod Ranges
pub mod Judgings
