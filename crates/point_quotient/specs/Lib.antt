pub mod Algebras
pub mod Complements
pub mod Quotients
