pub mod Answers
pub mod Groups
pub mod Numbers
pub mod Requests
