pub mod Monitor
pub mod Moving
pub mod Serving
pub mod Told
pub mod steps
