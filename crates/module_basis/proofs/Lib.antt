mod Parting
mod Pairing
mod Growth
mod Joining
mod Chaining
mod Adding
mod Advancing
mod Whole
mod Ideals
-- for the crates above: monomials in the first variables
pub mod Tested
