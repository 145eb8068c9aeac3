pub mod FollowLemmas
