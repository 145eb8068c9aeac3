pub mod Answered
pub mod Moments
pub mod Monitor
pub mod Standing
pub mod Stops
pub mod Told
pub mod Watching
pub mod steps
