pub mod BlockSums
pub mod BlockValues
pub mod ShortSpans
