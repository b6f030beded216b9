pub mod Asking
pub mod Refusals
pub mod Solved
pub mod Telling
