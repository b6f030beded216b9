-- for the crates above: rows as modules of fractions
pub mod Rows
-- A modulo d as an algebra of rows of digits
pub mod BaseAlgebras
-- for the laws here alone
mod Steps
mod Endo
mod BaseIdeals
