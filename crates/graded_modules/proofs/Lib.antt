-- Buchberger's criterion, degree by degree
pub mod Bases
-- divisors, cofactors and least common multiples of graded monomials
pub mod Cofactors
-- sums and products of vectors are vectors
pub mod Graded
-- modules are closed under sums, differences and multiples
pub mod Members
-- sums of multiples of vectors
pub mod Multiples
-- reduced bases, and the normal form
pub mod Reduced
-- S-vectors and what settles a pair
pub mod SVectors
-- what settles a pair
pub mod Settled
-- the lead of a vector's product with one term, and all that lies below it
pub mod Tops
-- for this crate alone
mod Descent
mod Examples
mod Parts
mod Ranks
