pub mod Combined
pub mod Averages
pub mod Ends
pub mod Wide
pub mod Laws
pub mod Shards
