-- What only the crate's own parts rest on: no public clause cites these.
pub mod OutputLog
pub mod Parts
pub mod Codes
pub mod Offers
pub mod Presences
