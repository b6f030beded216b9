-- cited by public clauses
pub mod Values
pub mod Meanings
-- steps of the code
pub mod Evaluating
pub mod Checks
