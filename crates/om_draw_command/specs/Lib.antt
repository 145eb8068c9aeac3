pub mod Draw
pub mod Reading
pub mod steps
