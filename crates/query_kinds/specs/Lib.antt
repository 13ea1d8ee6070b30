pub mod Beside
pub mod Kinds
pub mod Rows
