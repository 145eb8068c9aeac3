-- What only the crate's own parts rest on: no public clause cites these.
pub mod Beside
pub mod Search
pub mod Trail
pub mod RowCode
pub mod AsKept
pub mod Climbing
pub mod Memory
pub mod Indexed
pub mod Nearest
pub mod Held
pub mod Flat
pub mod Logs
pub mod Bases
pub mod Fresh
