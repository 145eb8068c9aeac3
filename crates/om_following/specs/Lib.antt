pub mod Following
pub mod steps
