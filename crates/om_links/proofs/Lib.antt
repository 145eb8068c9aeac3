mod LinkLemmas
pub mod WireLemmas
