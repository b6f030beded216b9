mod Vectors
mod Members
mod Bases
mod Lifting
mod Quotients
