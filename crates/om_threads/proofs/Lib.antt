mod ReportLemmas
mod SettleLemmas
mod FaultLemmas
mod PartLemmas
