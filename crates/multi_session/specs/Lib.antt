pub mod Sessions
pub mod Alone
pub mod Limits
pub mod Members
