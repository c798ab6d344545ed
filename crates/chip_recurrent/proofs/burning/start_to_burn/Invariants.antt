use Rattle.std.proofs.Common.{◌≡◌, ℕ, ◌<◌, length, slice_index}
use Rattle.chip_recurrent.specs.Burning.{burning_start}
use Rattle.chip_recurrent.proofs.burning.start_to_burn.Given as goal

abbrev pub invariant-loop-vertex : goal.invariant-loop-vertex
invariant-loop-vertex l = record {
  each : length l.start.items ≡ l.vertex;
  start : (v : ℕ) → v < l.vertex → slice_index l.start.items v ≡ burning_start l.graph v;
}
