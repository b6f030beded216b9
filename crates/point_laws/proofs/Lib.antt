-- for the crates above: points of a ring modulo an ideal, and the laws at them
pub mod CurvePoints
-- for the laws here alone
mod PointForms
mod Descent
mod Splitting
mod MaximalIdeals
mod AllPoints
mod DistinctPoints
mod FewPoints
mod SeveralPoints
mod PointTranslations
mod DescentWritten
mod Enlarging
mod Deltas
mod LocalRings
mod PointLaws
mod PointLawsHold
