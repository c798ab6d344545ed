mod Names
pub mod WordLemmas
pub mod VertexLemmas
pub mod StepLemmas
pub mod TurnWordLemmas
pub mod CountedLemmas
pub mod OpeningLemmas
pub mod FlightLemmas
pub mod HandLemmas
pub mod RunLemmas
pub mod ActorLemmas
pub mod DeterminedLemmas
pub mod WorkedDrives
pub mod OwnTurnLemmas
pub mod ClosesLemmas
pub mod EnoughLemmas
pub mod FedLemmas
