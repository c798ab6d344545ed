pub mod ListLemmas
pub mod LookupsLemmas
pub mod ChangesLemmas
pub mod FreshLemmas
pub mod IndicesLemmas
pub mod AllowedLemmas
pub mod SoundnessLemmas
