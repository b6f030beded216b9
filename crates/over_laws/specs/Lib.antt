pub mod Over
pub mod Laws
pub mod Chain
pub mod Endo
pub mod BaseIdeals
