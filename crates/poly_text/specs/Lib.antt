-- cited by public clauses
pub mod Digits
pub mod PolyReading
pub mod PolyText
pub mod Printing
pub mod Raising
-- steps of the code
pub mod Parts
pub mod TermReading
