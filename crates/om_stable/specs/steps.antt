-- What only the crate's own parts rest on: no public clause cites these.
pub mod Codes
pub mod Between
pub mod Stop
pub mod TakenBack
pub mod Pieces
pub mod Runs
