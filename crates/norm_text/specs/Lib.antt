pub mod Named
pub mod Answer
pub mod Answers
pub mod Shown
pub mod Joined
pub mod Lines
pub mod Plain
pub mod Meaning
pub mod Examples
pub mod Ranges
pub mod Reading
-- steps of the code
pub mod Cutting
pub mod ReadingSteps
