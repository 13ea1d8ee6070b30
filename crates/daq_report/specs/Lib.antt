pub mod Blocks
pub mod Ends
pub mod Extras
pub mod Groups
pub mod Intervals
pub mod Items
pub mod Rankings
