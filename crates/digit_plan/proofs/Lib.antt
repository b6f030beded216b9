-- for the crate above: lists that gain a member, places in rising lists, and the corners of a fit curve
pub mod Found
pub mod Corners
-- for this crate alone
mod Playing
mod Parents
mod Leads
mod Made
