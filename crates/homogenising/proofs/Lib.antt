-- lifting monomials to a degree by the homogenising variable, which keeps dp and products
pub mod Order
-- lists of terms whose monomials are all changed in one way
pub mod Images
-- what lifting to a degree and setting the homogenising variable to 1 do to monomials
pub mod Monomials
-- homogenising a polynomial, and setting the variable to 1 in a homogeneous one
pub mod Lifted
-- members with all leads of a graded ideal give members with all leads of the ideal where the variable is 1
pub mod Stays
-- what holds of a monomial where it holds of all smaller ones holds of each
pub mod Descent
-- lists of which no lead divides another one, and their leads
pub mod Apart
-- members with all leads span an ideal, and are its reduced basis where none is superfluous
pub mod Spanning
-- the lead of each member of an ideal is a multiple of a lead of its reduced basis
pub mod Found
-- what the calls that lift and lower terms owe
pub mod Terms
-- for this crate alone
mod Places
