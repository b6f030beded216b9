-- what other crates use: what the tokens of expressions are
pub mod Classes
pub mod Marks
mod Lexing
mod Counting
mod Scans
mod Listed
mod ScanReads
mod TokensOf
mod ScanTrees
mod ScanLists
mod Rings
mod Bodies
mod Wholes
