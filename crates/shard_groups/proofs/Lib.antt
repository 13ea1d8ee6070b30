mod Ascending
mod AverageLines
mod Contains
mod Cutting
mod Done
pub mod Exact
mod ExactAverages
pub mod Firsts
mod Found
pub mod Later
pub mod LineSets
mod Narrow
mod NestedAverages
mod Nests
mod One
mod OneOrder
mod Pairs
pub mod Places
mod Present
mod Reorders
mod SameAverages
pub mod Spans
mod Steps
mod Uncertain
pub mod ValueOrder
