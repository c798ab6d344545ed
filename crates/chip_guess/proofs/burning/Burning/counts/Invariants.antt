use Rattle.std.proofs.Common.{◌≡◌, ℕ, ◌≤◌, length, slice_index}
use Rattle.chip_guess.proofs.burning.Burning.counts.Given as goal

abbrev pub invariant-loop-vertex : goal.invariant-loop-vertex
invariant-loop-vertex l = record {
  each : length l.counts.items ≡ l.vertex;
  within : (v : ℕ) → slice_index l.counts.items v ≤ l.limit;
}
