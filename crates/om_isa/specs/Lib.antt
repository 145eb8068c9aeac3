pub mod Fields
pub mod Words
pub mod Rows
pub mod Memory
pub mod Text
pub mod derived
