pub mod Cells
pub mod Keys
pub mod Names
pub mod Rows
pub mod Shown
pub mod Texts
