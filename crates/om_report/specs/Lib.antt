pub mod Faults
pub mod Harvests
pub mod Locks
pub mod Released
pub mod Reports
pub mod Telling
