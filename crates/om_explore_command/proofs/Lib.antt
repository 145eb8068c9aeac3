pub mod DifferenceLemmas
pub mod ExplorationLemmas
pub mod OutcomeLemmas
pub mod PlaceLemmas
pub mod RequestLemmas
pub mod TallyLemmas
pub mod TallyLists
pub mod TextLemmas
