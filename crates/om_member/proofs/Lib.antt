mod Lists
mod RowLemmas
pub mod OutputLemmas
pub mod KeepLemmas
