pub mod Abouts
pub mod Beyond
pub mod Outputs
pub mod Senders
pub mod steps
