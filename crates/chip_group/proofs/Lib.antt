mod Names
pub mod FiresToLemmas
pub mod RecurrentLemmas
pub mod WorkedLemmas
