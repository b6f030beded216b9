-- the two parts of a vector
pub mod Components
-- the members of the module of a denominator, as pairs
pub mod Pairs
-- the first parts of a basis of the module generate the ideal of the denominator and the generators
pub mod Firsts
-- the second parts of the members of a basis whose leads lie there
pub mod Seconds
-- the second parts of a basis of the module generate the colon ideal, which is the ideal exactly for a regular denominator
pub mod Colons
-- the normal form of a lifted polynomial decides membership in the ideal of the denominator and the generators, and its second part is the quotient
pub mod Lifts
-- the stated laws
pub mod Stated
-- for this crate alone
mod Scaled
mod Taken
