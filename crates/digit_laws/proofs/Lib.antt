-- for the crates above: values of rows as combinations, and the laws of digits, blocks, spaces and corners
pub mod Linear
pub mod DigitLaws
pub mod Spaces
pub mod Corners
pub mod Blocks
