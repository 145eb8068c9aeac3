pub mod Drawing
pub mod Fates
pub mod Held
pub mod Marks
pub mod Places
pub mod steps
