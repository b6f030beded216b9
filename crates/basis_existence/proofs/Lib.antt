-- above an ideal of finite dimension each variable has a power that is a lead, so the leads in a box give a standard basis, and the corners lie in it
pub mod Corners
-- an ideal with a standard basis has a reduced one
pub mod Reducing
-- where membership is decided leads are; what stands behind a lead, and a difference that keeps it
pub mod LeadsDecided
-- for this crate alone
mod Decisions
mod Sorting
