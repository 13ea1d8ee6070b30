pub mod Naming
pub mod FirstReads
pub mod Answers
pub mod Turns
