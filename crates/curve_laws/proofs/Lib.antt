-- polynomials as members of a commutative ring
pub mod Members
-- that a list is a polynomial can be shown in one way only, so members with one list are equal
pub mod Facts
-- steps of equations with their members written out, for rings whose operations compute
pub mod Chains
-- a curve as a ring modulo an ideal, and its fractions as those of that ring
pub mod Base
-- fractions that are local at a list of polynomials, as fractions of the ring modulo I
pub mod Locals
-- where d is regular, equal fractions are integral together and local together
pub mod Regulars
-- residues as constant polynomials, and the dimension modulo d over them
pub mod Scalars
-- the laws of integral fractions at polynomials
pub mod StatedLaws
-- integral fractions at lists of points
pub mod SplitLaws
-- a finite delta bounds the power
pub mod DeltaLaws
-- descent at polynomials
pub mod DescentLaws
-- unique coordinates, decided membership, dimensions counted by bases, and the dimension modulo powers of d, at polynomials
pub mod Coordinates
-- rings of local fractions at polynomials
pub mod EnlargingLaws
-- delta counted by a basis of a ring of local fractions
pub mod CountingLaws
-- the fractions that are local at a list of points are a ring
pub mod LocalRingLaws
-- a closure has exactly the local fractions, and there is one at most
pub mod ClosingLaws
-- sets of points
pub mod PointSetLaws
-- a fit curve has a regular denominator and a finite dimension modulo it
pub mod FitLaws
-- for this crate alone
mod GeneratorLaws
mod Equations
mod ManyPoints
