pub mod Quotients
pub mod ProductRows
pub mod QuotientRows
pub mod OverQuotients
