-- for the crates above: sums, unit rows, products and classes of rows
pub mod Totals
pub mod Units
pub mod Products
pub mod Classes
pub mod Summing
-- projections, multiplications and ideals
pub mod Images
pub mod Multiplication
pub mod Generated
-- the algebras of the tests
pub mod Examples
-- for this crate alone
mod Counting
mod QuotientLaws
mod Weights
mod Freeing
mod Powers
mod Listing
mod QuotientHolds
mod BasisLaws
