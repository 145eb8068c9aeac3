pub mod Explored
pub mod FailureFree
pub mod Orders
pub mod Whole
pub mod steps
