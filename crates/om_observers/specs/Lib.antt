pub mod Watching
pub mod Witnessing
