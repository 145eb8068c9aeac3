pub mod Statements
pub mod Halfway
pub mod Codes
pub mod Answers
