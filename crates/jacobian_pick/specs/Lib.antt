pub mod Candidates
pub mod Choice
pub mod Lists
pub mod Uniqueness
