-- for this crate alone
mod ByRows
