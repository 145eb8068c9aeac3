pub mod FileDisk
pub mod steps
