pub mod AlongLemmas
pub mod SenderLemmas
mod TableLemmas
