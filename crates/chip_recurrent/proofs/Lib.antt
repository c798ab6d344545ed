mod Names
pub mod StabilizationLemmas
pub mod BurningLemmas
pub mod RowLemmas
pub mod EquivalentLemmas
pub mod RecurrentLemmas
pub mod DrawnLemmas
