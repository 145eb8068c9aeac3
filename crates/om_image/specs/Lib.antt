pub mod Image
pub mod steps
