use Rattle.std.proofs.Common.{◌≡◌, ℕ, ◌+◌, ◌<◌, ◌≤◌, length, slice_index, slice_index_or, vec_capacity}
use Rattle.chip_link.specs.Ends.{TailState}
use Rattle.chip_actor.specs.Root.{opened_tail}
use Rattle.chip_actor.proofs.feeder.FeederState.new.Given as goal

abbrev pub invariant-loop-vertex : goal.invariant-loop-vertex
invariant-loop-vertex l = record {
  count_is : length l.tails.items ≡ l.vertex;
  each : (v : ℕ) → v < l.vertex → (d : TailState)
      → slice_index_or l.tails.items v d ≡ opened_tail (l.graph_edges + v) l.ring (slice_index l.start v);
  room : length l.start ≤ vec_capacity l.tails;
}
