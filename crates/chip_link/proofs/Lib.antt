pub mod WordLawsLemmas
pub mod SoundsLemmas
pub mod ShownLemmas
pub mod StatesLemmas
pub mod NumberingLemmas
pub mod LiveEdgesLemmas
