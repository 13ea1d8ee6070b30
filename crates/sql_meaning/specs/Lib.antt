pub mod Values
pub mod Conditions
pub mod Expressions
pub mod Answers
pub mod Orders
pub mod Rows
pub mod Attained
pub mod Laws
