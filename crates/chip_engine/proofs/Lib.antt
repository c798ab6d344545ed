mod ChainLemmas
pub mod StageLemmas
mod GuessLemmas
mod VerifyLemmas
pub mod DropLemmas
mod DropRowLemmas
mod SameLemmas
mod ScheduleLemmas
mod SimulateLemmas
