pub use Rattle.chip_graph.specs.Multigraph
pub use Rattle.chip_sequence.specs.Firing
pub use Rattle.chip_sequence.specs.Sequence
pub use Rattle.chip_sequence.specs.Counted
pub mod Recurrent
pub mod Worked
pub mod Laws
