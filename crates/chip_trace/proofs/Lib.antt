mod Names
pub mod PrefixLemmas
pub mod RowLemmas
pub mod GreatestLemmas
pub mod NumberLemmas
pub mod KeptLemmas
pub mod LookLemmas
pub mod ReplayLemmas
pub mod VerdictLemmas
pub mod RemainingLemmas
pub mod StuckLemmas
pub mod TextLemmas
mod Worked
