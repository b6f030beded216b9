pub mod Homogenised
pub mod Laws
