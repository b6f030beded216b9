-- for this crate alone
mod Points
mod Entries
