pub mod Following
pub mod Stored
pub mod steps
