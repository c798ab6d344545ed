mod Names
pub mod NumberLemmas
mod JsonNames
mod Turns
mod Known
mod Shapes
mod Rowed
mod Standing
mod Texts
mod Digits
mod Lexemes
mod Plainly
mod KeptLemmas
pub mod VertexRowLemmas
mod ChipsLemmas
pub mod WrittenLemmas
mod RowLemmas
mod RecordLemmas
mod ReadLemmas
mod TraceLemmas
mod LogLemmas
mod MixLemmas
mod FieldLemmas
mod Worked
