pub mod Outputs
pub mod Gatherings
pub mod State
pub mod Sound
pub mod Notes
pub mod Rounds
pub mod Bounds
pub mod steps
