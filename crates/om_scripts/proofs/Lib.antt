pub mod ImageLemmas
pub mod NameLemmas
pub mod NamedLemmas
pub mod ScriptLemmas
