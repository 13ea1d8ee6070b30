pub mod Names
pub mod Kinds
pub mod Typing
pub mod Faults
pub mod Parts
pub mod Refusals
pub mod Laws
