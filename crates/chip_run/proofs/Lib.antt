pub mod RunLemmas
pub mod FitLemmas
pub mod FitRunLemmas
