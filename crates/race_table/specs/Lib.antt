pub mod Views
pub mod Rule
pub mod Answers
pub mod Passes
pub mod Jobs
pub mod Events
