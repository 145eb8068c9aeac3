pub mod Fitting
pub mod Going
pub mod Placing
pub mod Resting
pub mod Rows
