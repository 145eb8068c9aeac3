pub mod Dropping
pub mod Links
pub mod Network
pub mod Wiring
pub mod steps
