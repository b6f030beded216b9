pub mod Sums
pub mod Echelon
pub mod Subspace
pub mod Insertion
