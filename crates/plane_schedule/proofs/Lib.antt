pub mod Best
pub mod Deciding
pub mod Least
pub mod One
pub mod Existing
pub mod Same
