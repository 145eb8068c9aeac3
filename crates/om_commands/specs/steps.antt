-- What only the crate's own parts rest on: no public clause cites these.
pub mod Errors
pub mod Events
pub mod Lines
pub mod Parts
pub mod Behind
