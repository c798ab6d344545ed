use Rattle.chip_sequence.proofs.Names.{ℕ, ◌<◌, slice_index, IsBelowZero}
use Rattle.chip_sequence.proofs.counted.first_negative.Given as goal

abbrev pub invariant-loop-vertex : goal.invariant-loop-vertex
invariant-loop-vertex l = (v : ℕ) → v < l.vertex
    → IsBelowZero l.graph (slice_index l.start) (slice_index l.fired) v → ⊥
