-- for the crates above: an algebra as a ring in which p is 0; nilpotent and fixed elements
pub mod Ground
pub mod Stages
-- for this crate alone
mod GraphLaws
