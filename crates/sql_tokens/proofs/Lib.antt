pub mod Strings
pub mod Marks
pub mod Cutting
pub mod OneCut
pub mod Units
pub mod SomeCut
