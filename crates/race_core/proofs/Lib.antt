-- counts and sums over lists, which the crates above use too
pub mod Counting
mod Kept
mod Reached
