pub mod Causes
pub mod State
pub mod Values
pub mod Effects
pub mod Step
pub mod Finishing
pub mod derived
pub mod steps
