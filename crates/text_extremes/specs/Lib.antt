pub mod Answers
pub mod Bounds
pub mod Laws
pub mod Shards
pub mod Texts
