pub mod VectorLemmas
pub mod LineLemmas
pub mod StartsLemmas
