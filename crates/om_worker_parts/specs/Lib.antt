pub mod Acts
pub mod Places
pub mod Sights
