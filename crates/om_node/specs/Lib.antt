pub mod Ends
pub mod Flying
pub mod Holding
pub mod Nodes
pub mod Storing
pub mod Stores
