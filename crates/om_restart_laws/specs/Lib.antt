pub mod Alone
pub mod Chains
pub mod Runs
pub mod Worlds
