pub mod Curve
pub mod Frobenius
pub mod Ideal
pub mod Laws
pub mod Poly
pub mod Reduced
pub mod Ring
pub mod Terms
-- the top of a power, within private calls
pub mod Top
