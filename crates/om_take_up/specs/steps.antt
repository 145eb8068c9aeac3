-- What only the crate's own parts rest on: no public clause cites these.
pub mod Failing
pub mod Handing
pub mod Telling
