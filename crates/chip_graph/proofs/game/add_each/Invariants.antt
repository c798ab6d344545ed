use Rattle.std.proofs.Common.{◌≡◌, ℕ, ◌+◌, ◌<◌, length, sum, take, slice_index}
use Rattle.chip_graph.specs.More.{brought_to, all_brought}
use Rattle.chip_graph.proofs.game.add_each.Given as goal

abbrev pub invariant-loop-vertex : goal.invariant-loop-vertex
invariant-loop-vertex l = record {
  each : (v : ℕ) → v < length l.initial.start
      → slice_index l.start v ≡ slice_index l.initial.start v + brought_to (take l.vertex-index l.more) v;
  total : sum l.start ≡ sum l.initial.start + all_brought (take l.vertex-index l.more);
}
