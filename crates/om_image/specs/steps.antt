-- What only the crate's own parts rest on: no public clause cites these.
pub mod Padded
pub mod Lines
pub mod Errors
