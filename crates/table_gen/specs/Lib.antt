pub mod Draws
pub mod Columns
pub mod TableOf
pub mod Laws
