pub mod Cuts
pub mod Standings
pub mod Stopping
pub mod Searches
