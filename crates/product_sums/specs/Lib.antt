pub mod ColumnEnds
pub mod Fetched
pub mod KeptProducts
pub mod Products
pub mod SomeRows
