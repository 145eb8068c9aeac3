-- What only the crate's own parts rest on: no public clause cites these.
pub mod Pieces
pub mod Numbers
pub mod Views
pub mod Planned
pub mod Rows
pub mod Fitting
pub mod Faults
pub mod Lawful
