pub mod Deltas
pub mod Reading
pub mod Telling
