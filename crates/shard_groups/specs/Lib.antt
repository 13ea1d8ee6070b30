pub mod Cuts
pub mod Firsts
pub mod Found
pub mod Groups
pub mod Keys
pub mod Laws
pub mod Lines
pub mod Steps
