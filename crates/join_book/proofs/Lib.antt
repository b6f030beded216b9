-- for the crates above: points with finished modules, as lists of points of the curve
pub mod Parts
-- for the crates above: the entries with finished modules, and the points of the settled ones
pub mod Strata
-- for this crate alone
mod Books
