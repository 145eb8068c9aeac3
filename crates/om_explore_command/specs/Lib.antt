pub mod Differences
pub mod Outcomes
pub mod Request
pub mod Tallies
pub mod ExplorationText
pub mod Explorations
pub mod steps
