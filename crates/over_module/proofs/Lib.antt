-- for the crates above: the digits of a fit curve, rows that are filled with zeros, and fractions by rows at two depths
pub mod Facts
pub mod Values
pub mod DepthRows
-- spaces of rows behind zeros, and sums of rows
pub mod ZeroRows
pub mod SummedRows
-- for this crate alone: modules over another power of d
mod Ranks
mod Moved
-- A itself
mod WholeRing
-- which fractions are in a module, sums, and the least power
mod Compared
mod SummedModules
mod LeastPower
