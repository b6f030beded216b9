-- for this crate alone
mod Enlarging
