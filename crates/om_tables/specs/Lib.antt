pub mod Store
pub mod Cached
pub mod Refusals
pub mod Tables
pub mod steps
