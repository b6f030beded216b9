-- cited by public clauses
pub mod Tokens
pub mod Words
pub mod Expressions
pub mod ProblemText
pub mod Forms
-- steps of the code
pub mod Reading
pub mod Scanning
