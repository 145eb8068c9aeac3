-- What only the crate's own parts rest on: no public clause cites these.
pub mod Filmed
pub mod Kept
pub mod Kinds
pub mod Parts
pub mod Placed
pub mod Reels
