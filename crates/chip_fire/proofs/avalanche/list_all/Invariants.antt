use Rattle.std.proofs.Common.{◌≡◌, ℕ, ◌<◌, length, slice_index}
use Rattle.chip_fire.proofs.avalanche.list_all.Given as goal

abbrev pub invariant-loop-vertex : goal.invariant-loop-vertex
invariant-loop-vertex l = record {
  each : length l.support.items ≡ length l.fn.support.items;
  all : (v : ℕ) → v < l.vertex → slice_index l.support.items v ≡ v;
}
