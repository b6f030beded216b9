-- rows of digits at depth 1 and their polynomials
mod Classes
-- the unit rows, and how many members a basis modulo a space has
mod Counting
-- an ideal of A modulo d and its reduced basis
mod Ideals
-- the ideal of a point as a space
mod Spaces
-- all points
mod Points
