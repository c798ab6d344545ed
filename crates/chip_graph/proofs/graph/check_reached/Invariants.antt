use Rattle.chip_graph.proofs.Names.{◌≢◌, ℕ, ◌<◌, slice_index, UNREACHED}
use Rattle.chip_graph.proofs.graph.check_reached.Given as goal

abbrev pub invariant-loop-v : goal.invariant-loop-v
invariant-loop-v l = (u : ℕ) → u < l.v → slice_index l.distances u ≢ UNREACHED
