pub mod EndLemmas
pub mod DriveLemmas
pub mod RowLemmas
pub mod TextLemmas
