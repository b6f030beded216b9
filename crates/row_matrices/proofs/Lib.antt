-- for this crate alone
mod Adding
mod KernelLaws
