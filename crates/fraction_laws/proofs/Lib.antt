-- for the crates above: settings, the ring of fractions, the forms of the definitions, and the laws
pub mod Settings
pub mod Scalars
pub mod Forms
pub mod Basic
pub mod Digits
pub mod Integrals
pub mod FractionRing
pub mod WrittenOut
pub mod Coordinates
pub mod FractionLaws
pub mod Translations
pub mod Premises
pub mod Independence
pub mod Units
pub mod CurveLaws
-- for the laws here alone
mod LawsHold
mod PowerBound
mod DimensionOfPowers
