-- lists of vectors, and what a division leaves
pub mod Lists
pub mod Reductions
-- vectors reduced by one another: of a module, and of an ideal
pub mod Reduced
pub mod IdealBases
-- a factor of the quotient keeps within the degrees
pub mod Steps
-- the steps of the functions
mod Rank
mod Merging
mod Cores
mod Tails
mod Interreducing
mod Standard
mod RowTerms
mod RowSteps
