pub mod Book
pub mod Inside
pub mod Answers
pub mod Sums
pub mod Whole
