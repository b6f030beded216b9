-- for the crates above: deltas are not both within a limit and above it
pub mod Deltas
-- for this crate alone
mod OneRing
mod Sums
mod Lists
mod Parts
