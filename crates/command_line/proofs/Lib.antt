pub mod Numbers
pub mod Steps
pub mod Sound
pub mod Whole
pub mod Places
