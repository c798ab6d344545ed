pub mod CommandLemmas
pub mod InputLemmas
pub mod OneReportLemmas
pub mod RoundTripLemmas
pub mod StageLemmas
