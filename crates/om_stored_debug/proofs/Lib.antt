pub mod Showing
pub mod Holding
