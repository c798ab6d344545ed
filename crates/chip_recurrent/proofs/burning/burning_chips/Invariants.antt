use Rattle.std.proofs.Common.{◌≡◌, ℕ, ◌+◌, ◌-◌, ◌<◌, min, length, slice_index}
use Rattle.chip_graph.specs.Multigraph.{degree}
use Rattle.chip_sequence.specs.Certificate.{in_degree}
use Rattle.chip_recurrent.proofs.burning.burning_chips.Given as goal

abbrev pub invariant-loop-vertex : goal.invariant-loop-vertex
invariant-loop-vertex l = record {
  each : length l.chips.items ≡ l.vertex;
  chips : (v : ℕ) → v < l.vertex
      → slice_index l.chips.items v ≡ degree l.graph v - (slice_index l.ends v + min (in_degree l.graph v) 1);
}
