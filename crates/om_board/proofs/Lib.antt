pub mod OrderLemmas
pub mod PostingLemmas
pub mod BoardLemmas
pub mod MadeLemmas
pub mod FrontLemmas
pub mod ListLemmas
