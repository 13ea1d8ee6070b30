pub mod Choices
pub mod Keeping
pub mod Plans
pub mod Laws
