-- sums of multiples by factors of one kind, of which ideals and modules are two
pub mod Combinations
-- residues as constant polynomials
pub mod Constants
-- the coefficients of sums and products
pub mod Coefficients
-- differences, and what was taken away
pub mod Differences
-- members of ideals
pub mod Ideals
-- lists of polynomials as lists of members of that ring
pub mod Members
-- multiples by numbers and by terms
pub mod Multiples
-- members of a list; reduced lists of one ideal are equal
pub mod Unique
