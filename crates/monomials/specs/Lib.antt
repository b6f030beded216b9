pub mod Laws
pub mod Mono
