pub mod Words
pub mod KeptPages
pub mod Marking
