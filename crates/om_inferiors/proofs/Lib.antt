pub mod Each
pub mod Lasting
pub mod Sets
pub mod Taking
pub mod Telling
