pub mod HarvestLemmas
pub mod ReleasedLemmas
pub mod LockLemmas
