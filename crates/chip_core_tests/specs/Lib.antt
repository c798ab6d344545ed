pub mod Asking
pub mod ActorAsking
pub mod RootAsking
