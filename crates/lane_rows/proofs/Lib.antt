-- for the crates above: rows by their entries
pub mod Entries
-- for the kernels alone
mod Residues
