pub mod Bases
pub mod Deep
pub mod Examples
pub mod Laws
pub mod Module
pub mod SVector
pub mod Vector
