pub mod BlockRows
pub mod BlockSums
pub mod NumberRanges
pub mod NullRows
pub mod ShortNumbers
pub mod ShortRows
pub mod Sizes
