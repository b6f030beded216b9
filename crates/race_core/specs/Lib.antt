pub mod State
pub mod Moves
pub mod Sound
pub mod Runs
pub mod Tickets
pub mod Parts
pub mod Laws
