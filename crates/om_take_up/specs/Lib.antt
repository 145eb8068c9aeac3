pub mod Anew
pub mod Orders
pub mod StoreRows
pub mod TakenUp
pub mod steps
