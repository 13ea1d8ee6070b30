pub mod Accepted
pub mod Faults
pub mod Shown
pub mod Steps
pub mod Streams
