mod Names
pub mod RunLemmas
pub mod FloodLemmas
