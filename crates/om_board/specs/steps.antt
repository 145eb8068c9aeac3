-- What only the crate's own parts rest on: no public clause cites these.
pub mod NoCell
pub mod Waiting
pub mod Order
pub mod Posting
pub mod Codes
pub mod Posts
