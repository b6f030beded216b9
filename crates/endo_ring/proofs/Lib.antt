-- for this crate alone
mod Sums
mod Generators
mod Taking
