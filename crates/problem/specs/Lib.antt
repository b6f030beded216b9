-- cited by public clauses
pub mod Letters
pub mod Problem
