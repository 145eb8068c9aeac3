-- What only the crate's own parts rest on: no public clause cites these.
pub mod Lanes
