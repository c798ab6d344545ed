use Rattle.std.proofs.Common.{ℕ, ◌<◌, slice_index}
use Rattle.chip_sequence.specs.Firing.{IsLegal}
use Rattle.chip_recurrent.proofs.rows.is_stable.Given as goal

abbrev pub invariant-loop-vertex : goal.invariant-loop-vertex
invariant-loop-vertex l = (v : ℕ) → v < l.vertex → IsLegal l.graph (slice_index l.chips) v → ⊥
