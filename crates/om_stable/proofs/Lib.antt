pub mod BetweenLemmas
mod LedgerLemmas
pub mod RecordLemmas
mod PieceLemmas
mod RunLemmas
mod TakenBackLemmas
pub mod TreeLemmas
