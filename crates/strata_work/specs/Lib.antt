pub mod Chains
pub mod Hand
pub mod Working
