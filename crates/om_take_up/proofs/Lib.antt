pub mod FailingLemmas
pub mod HandingLemmas
pub mod Orders
pub mod RowsLemmas
