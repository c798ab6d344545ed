pub mod Values
pub mod RawValues
pub mod HandleLemmas
