mod Names
pub mod SumLemmas
pub mod PackedListLemmas
pub mod PickLemmas
pub mod PlaceLemmas
pub mod FaultLemmas
pub mod IndexLemmas
pub mod WalksLemmas
pub mod SpreadingLemmas
