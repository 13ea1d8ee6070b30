pub mod WideCells
pub mod Counts
pub mod Steps
pub mod Sums
