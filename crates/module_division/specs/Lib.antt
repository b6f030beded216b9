-- cited by public clauses
pub mod Vectors
pub mod Division
pub mod Ideals
-- steps of the code
pub mod Leads
pub mod Reduction
pub mod Rows
