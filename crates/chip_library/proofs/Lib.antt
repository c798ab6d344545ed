pub mod BatchLemmas
pub mod DropLemmas
pub mod KeptLemmas
pub mod MeasuresLemmas
pub mod BooksLemmas
pub mod SumsLemmas
pub mod EdgesLemmas
