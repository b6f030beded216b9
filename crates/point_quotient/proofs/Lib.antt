-- for the crates above: a module and a point over the curve of its digits
pub mod Numerators
-- for this crate alone: products of corners
mod CornerRows
-- rows whose first entries are in a space, products by rows, complements, and tables of coordinates
mod FrontRows
mod Times
mod ProductLists
mod Divided
mod RestSpaces
mod Tables
-- rows that are a basis modulo the products
mod QuotientParts
