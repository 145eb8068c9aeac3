pub mod Bits
pub mod DecodedLemmas
