mod Names
pub mod LookupsLemmas
pub mod EndLemmas
pub mod StandingLemmas
pub mod SteppingLemmas
pub mod MakingLemmas
pub mod FindingLemmas
pub mod ActorOpeningLemmas
pub mod TurnActorLemmas
pub mod MediumLemmas
pub mod TurnOverLemmas
pub mod LoopLemmas
pub mod SendLemmas
pub mod RootLemmas
pub mod FeedLemmas
