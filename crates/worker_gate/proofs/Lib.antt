-- for this crate alone
mod Counted
mod Places
mod Unwon
