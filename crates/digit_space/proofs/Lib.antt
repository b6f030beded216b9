-- entries of sums of rows, as a loop adds them
pub mod Entries
-- for the program here alone
mod Kept
mod BlockSums
mod Added
mod KeptRows
mod Shifts
mod Found
mod RowProducts
mod MonomialRows
mod TermRows
mod Spaced
mod BlockPolys
mod Lows
