pub mod Knowing
pub mod Opening
