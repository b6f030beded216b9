pub mod Fractions
pub mod Curves
pub mod Laws
