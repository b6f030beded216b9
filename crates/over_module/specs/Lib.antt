pub mod Done
pub mod Raising
