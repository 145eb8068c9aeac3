pub mod Alone
pub mod Chains
pub mod Closing
pub mod Cutting
pub mod Replaying
pub mod Restarts
pub mod Runs
pub mod Worlds
