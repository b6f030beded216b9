pub mod Nilpotent
pub mod Powers
