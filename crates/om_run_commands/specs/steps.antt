-- What only the crate's own parts rest on: no public clause cites these.
pub mod Modes
pub mod Scripts
pub mod Settings
pub mod Lines
pub mod Errors
