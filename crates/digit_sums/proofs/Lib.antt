pub mod Digits
pub mod Kept
pub mod Cells
pub mod MovedRows
pub mod ReadCells
