-- for the crates above: where nothing is left modulo the denominator
pub mod Plain
-- for the crates above: texts of lists
pub mod Pieces
-- for the crates above: that named points are distinct points
pub mod Meaning
-- for the crates above: a problem has one list of named points
pub mod OneList
-- for this crate alone
mod OneAnswer
mod Joins
mod NamedExamples
mod Cuts
mod TextCuts
mod Told
mod Leaves
mod NextItems
mod Sizes
mod Whole
mod TextsTell
