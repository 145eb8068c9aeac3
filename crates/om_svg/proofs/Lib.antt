pub mod PlainLemmas
pub mod Pieces
