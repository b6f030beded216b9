pub mod Lifts
pub mod Playing
pub mod Planned
