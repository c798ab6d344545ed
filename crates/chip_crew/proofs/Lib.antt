mod Names
pub mod PlacesLemmas
pub mod TurnLemmas
pub mod GatheringLemmas
pub mod RunLemmas
pub mod DealingLemmas
pub mod FeedLemmas
pub mod FinishingLemmas
pub mod LeadingLemmas
