-- for the crates above: sums of multiples of rows, and rows that are written and gathered
pub mod Weights
pub mod Members
pub mod Written
pub mod Gathering
-- for this crate alone
mod Rest
mod Adding
mod Spaces
mod Together
mod RightParts
mod Images
mod Finding
