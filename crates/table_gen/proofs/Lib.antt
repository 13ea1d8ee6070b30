pub mod Dictionaries
pub mod Columns
pub mod Tables
pub mod Laws
mod SomeTable
