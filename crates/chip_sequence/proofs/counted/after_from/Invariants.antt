use Rattle.chip_sequence.proofs.Names.{◌≡◌, ℕ, ◌<◌, slice_index, position_by_counts}
use Rattle.chip_sequence.proofs.counted.after_from.Given as goal

abbrev pub invariant-loop-vertex : goal.invariant-loop-vertex
invariant-loop-vertex l = (v : ℕ) → v < l.vertex
    → slice_index l.into v ≡ position_by_counts l.graph (slice_index l.start) (slice_index l.fired) v
