-- cited by public clauses
pub mod Gens
pub mod Basis
-- steps of the code
pub mod Growing
