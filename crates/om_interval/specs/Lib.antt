pub mod Vectors
pub mod Starts
pub mod steps
