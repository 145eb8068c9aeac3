pub mod Backwards
pub mod Looking
pub mod Moved
pub mod Quiet
pub mod Stepping
pub mod Telling
