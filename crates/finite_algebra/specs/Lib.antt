pub mod Elements
pub mod Projections
