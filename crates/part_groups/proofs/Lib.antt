mod Carried
mod Hulls
pub mod Once
pub mod Overall
mod PartKeys
mod Report
mod Shared
mod TextLaws
mod TextNests
mod Textless
mod Whole
mod WholeFaults
mod WholeLaws
mod Written
