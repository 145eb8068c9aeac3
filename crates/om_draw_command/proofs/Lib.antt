pub mod DrawLemmas
pub mod LineLemmas
pub mod PlainNames
