pub mod Shown
pub mod steps
