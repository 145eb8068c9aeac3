pub mod Debug
pub mod Symbols
