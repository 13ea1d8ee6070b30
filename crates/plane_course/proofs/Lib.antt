pub mod Files
pub mod Pads
pub mod Placed
pub mod RowsBack
pub mod StoreReads
pub mod Stepping
pub mod Stopping
