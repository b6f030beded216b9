-- for this crate alone
mod Sums
mod Seats
mod Steps
mod Cuts
mod Whole
mod Shown
