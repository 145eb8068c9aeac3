pub mod GivenLemmas
mod LookLemmas
mod ShownLemmas
