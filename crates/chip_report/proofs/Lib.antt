mod Names
pub mod BracketLemmas
pub mod ListLemmas
pub mod ReportLemmas
mod Worked
pub mod ReportTwoLemmas
