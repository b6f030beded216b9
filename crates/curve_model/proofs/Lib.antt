-- for the crates above: a curve with the denominator 1, and the cusp
pub mod UnitDenominator
pub mod Cusp
pub mod CuspLocal
pub mod CuspWeights
pub mod Origin
pub mod OriginPoint
pub mod Tests
pub mod TwoVariables
-- for the examples here alone
mod Axes
mod Plane
