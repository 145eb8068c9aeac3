pub mod Errors
pub mod Numbers
pub mod Reading
pub mod Script
pub mod Words
