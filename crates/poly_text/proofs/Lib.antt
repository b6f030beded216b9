-- what other crates use: monomials raised by a variable
pub mod VariablePowers
mod Fronts
mod Texts
mod Reader
mod ReadBack
