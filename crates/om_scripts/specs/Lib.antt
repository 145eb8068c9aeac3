pub mod Named
pub mod Programs
pub mod steps
