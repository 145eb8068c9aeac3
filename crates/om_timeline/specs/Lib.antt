pub mod Alone
pub mod Deeds
pub mod Shown
pub mod Timeline
pub mod steps
