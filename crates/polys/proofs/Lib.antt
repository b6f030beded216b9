-- sums, products and constants in n variables; lists of zeros
pub mod Affine
-- degrees of sums, products and powers
pub mod Degrees
-- derivatives term by term
pub mod Derivatives
-- what holds of each monomial of a sum, product or multiple
pub mod Each
-- inverses of residues
pub mod Field
-- the ring of polynomials
pub mod Instance
-- leads of products, and the order of their terms
pub mod Leads
-- terms at a place of a list, and merges
pub mod Merge
-- cut lists, and products term by term
pub mod Products
-- the laws of sums and products
pub mod Sums
-- the polynomial 1, powers, multiples by numbers
pub mod Units
-- two lists of terms with the same weights have one normal form
pub mod Weights
-- for this crate alone
mod Frobenius
mod Raised
mod Stated
mod Tops
