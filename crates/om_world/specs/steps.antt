-- What only the crate's own parts rest on: no public clause cites these.
pub mod Past
pub mod Legal
pub mod Sound
pub mod Restarting
pub mod Stopping
pub mod Moves
pub mod Starting
pub mod Running
pub mod Pruning
pub mod Members
pub mod Gathering
pub mod Returning
pub mod NotRunning
pub mod Codes
pub mod Faultless
