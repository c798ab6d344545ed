use Rattle.std.proofs.Common.{◌≡◌, ℕ, ◌-◌, ◌<◌, ◌≤◌, ◌^◌, min, length, slice_index}
use Rattle.chip_recurrent.specs.Stabilizations.{sum_of}
use Rattle.chip_recurrent.proofs.stabilization.start_of.Given as goal

abbrev pub invariant-loop-vertex : goal.invariant-loop-vertex
invariant-loop-vertex l = record {
  each : length l.count-items ≡ length l.chips;
  summed : (v : ℕ) → v < l.vertex → slice_index l.count-items v ≡ min (sum_of l.chips l.more v) (2 ^ 64 - 1);
  rest : (v : ℕ) → l.vertex ≤ v → slice_index l.count-items v ≡ slice_index l.chips v;
}
