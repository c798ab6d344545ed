mod Names
pub mod LayingLemmas
pub mod ViewingLemmas
pub mod SplittingLemmas
pub mod MeetingLemmas
pub mod OpeningLemmas
pub mod RulingLemmas
pub mod ActingLemmas
pub mod TurningLemmas
pub mod AnsweringLemmas
pub mod RootingLemmas
pub mod SendingLemmas
pub mod StoppingLemmas
pub mod ReadingLemmas
pub mod FeedingLemmas
pub mod FinishingLemmas
pub mod ReachingLemmas
pub mod CrossingLemmas
