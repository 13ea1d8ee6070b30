pub mod ExactAverages
pub mod Promises
pub mod Laws
pub mod Passes
pub mod Blocks
pub mod Measures
pub mod Furthest
pub mod Ways
