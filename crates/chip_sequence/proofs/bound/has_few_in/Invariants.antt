use Rattle.chip_sequence.proofs.Names.{ℕ, ◌<◌, ◌≤◌, ◌≢◌, degree}
use Rattle.chip_sequence.specs.Certificate.{in_degree}
use Rattle.chip_sequence.proofs.bound.has_few_in.Given as goal

abbrev pub invariant-loop-vertex : goal.invariant-loop-vertex
invariant-loop-vertex l = (v : ℕ) → v < l.vertex → v ≢ l.graph.sink → in_degree l.graph v ≤ degree l.graph v
