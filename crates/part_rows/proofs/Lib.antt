mod Counts
mod Ends
mod Exact
mod Joined
mod Joins
mod KeyNumbers
mod Later
mod Lines
mod Lists
mod Nesting
mod Orders
mod Ranking
mod Ranks
mod ReadBack
mod Reports
mod Right
mod Rising
pub mod RisingRows
mod Standing
mod Told
mod ToldLater
mod Trees
pub mod Whole
