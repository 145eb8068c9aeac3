pub mod DecodeLemmas
pub mod QuotedLemmas
pub mod ReportLemmas
pub mod ScriptLemmas
pub mod PartLemmas
pub mod SimLemmas
pub mod TextLemmas
