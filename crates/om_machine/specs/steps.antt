-- What private contracts alone speak of.
pub mod Told
pub mod Operations
pub mod Known
pub mod Performing
