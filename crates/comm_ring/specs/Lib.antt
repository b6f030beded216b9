pub mod Ring
pub mod Residues
pub mod Sums
pub mod Modules
pub mod Rows
pub mod Ideals
pub mod Pigeonhole
pub mod Laws
