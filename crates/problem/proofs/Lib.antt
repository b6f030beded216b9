-- what other crates use: where letters stand, and that they are no digits
pub mod Places
