pub mod Digits
pub mod FirstFaulty
pub mod Parts
pub mod Readings
