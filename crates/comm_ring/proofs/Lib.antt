-- what follows at once from a ring's laws
pub mod Derived
-- expressions read off the terms of a goal
pub mod Quote
-- ring identities with their expressions written out, for goals that do not show their terms
pub mod Expressions
-- the ring of the numbers modulo p, and identities between remainders
pub mod Residues
-- values joined over a list, in a commutative monoid
pub mod Joined
-- finite sums and products over lists in a commutative ring
pub mod Sums
-- modules over a commutative ring
pub mod Modules
-- a module modulo a submodule
pub mod Quotients
-- the exchange law over a field
pub mod Exchange
-- dimension over a field
pub mod Dimension
-- the numbers modulo a prime are a field
pub mod Fields
-- the p-th power of a sum over a commutative ring in which p is 0, and of a residue modulo p, for each characteristic p up to 47
pub mod Freshman
-- rows of one width are a module over the numbers modulo p
pub mod Rows
-- ideals
pub mod Ideals
-- what products of members of a set take into another set
pub mod Takes
-- of m + 1 numbers below m two are equal
pub mod Pigeons
-- a search through the numbers below a bound decides
pub mod Searching
-- numbers i + s m with i below s
pub mod PlaceValues
-- for this crate alone
mod Solver
mod Equality
mod Linear
mod Examples
