-- for the crates above: rows of digits of the numerators of a module
pub mod QuotientRows
pub mod OverQuotients
pub mod Radicals
-- for the laws here alone
mod Constants
mod Subquotients
mod FractionQuotients
mod Quotients
mod Nilpotents
mod Products
mod ProductRows
mod Transport
