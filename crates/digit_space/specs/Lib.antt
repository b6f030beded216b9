pub mod Model
pub mod Adding
