pub mod CheckLemmas
pub mod FollowLemmas
pub mod ModeLemmas
pub mod RawLemmas
pub mod RunLemmas
