use Rattle.std.proofs.Common.{◌≡◌, ℕ, ◌<◌, ◌≤◌, length, slice_index}
use Rattle.chip_sequence.specs.Stages.{fired_in_all, max_prior}
use Rattle.chip_fire.proofs.stage.counts_so_far.Given as goal

abbrev pub invariant-loop-vertex : goal.invariant-loop-vertex
invariant-loop-vertex l =
    (length l.sums.items ≡ l.vertex)
    × ((v : ℕ) → v < l.vertex
    → (slice_index l.sums.items v ≡ fired_in_all l.earlier v) × (fired_in_all l.earlier v ≤ max_prior))
