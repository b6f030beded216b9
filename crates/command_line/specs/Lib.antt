pub mod Options
pub mod Asks
