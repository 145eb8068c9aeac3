pub mod Batches
pub mod Calls
pub mod Content
pub mod Count
pub mod Ledger
pub mod steps
