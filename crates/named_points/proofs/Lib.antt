-- for this crate alone
-- what holds of images, item by item
mod Pairs
-- the text of a list tells its polynomials
mod Commas
-- values decide what the statements name
mod Values
-- one point after another is chosen or left out
mod Choosing
-- the points that were chosen are the named ones
mod Named
-- sorting by distinct texts
mod Sorting
-- the named points in the order of their texts
mod Listed
