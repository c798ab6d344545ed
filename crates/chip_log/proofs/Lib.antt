mod Names
pub mod PrefixLemmas
pub mod CountLemmas
pub mod MetLemmas
pub mod PastLemmas
pub mod QuiescentLemmas
mod LeftLemmas
pub mod VerdictLemmas
pub mod BooksLemmas
pub mod LoopLemmas
pub mod JudgeLemmas
mod SameLemmas
pub mod RightLemmas
mod PlacesLemmas
pub mod QueuesLemmas
mod OrderingLemmas
mod ProgressLemmas
mod OrderLemmas
pub mod OneLemmas
mod FirstLemmas
pub mod MissingLemmas
mod CutLemmas
