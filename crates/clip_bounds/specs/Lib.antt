pub mod Clips
pub mod Clipped
pub mod ClipLaws
pub mod Levels
pub mod Sums
pub mod Ends
