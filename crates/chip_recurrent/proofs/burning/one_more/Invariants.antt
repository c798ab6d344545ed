use Rattle.std.proofs.Common.{◌≡◌, ℕ, ◌+◌, ◌<◌, ◌≤◌, length, slice_index}
use Rattle.chip_recurrent.proofs.burning.one_more.Given as goal

abbrev pub invariant-loop-count : goal.invariant-loop-count
invariant-loop-count l = record {
  each : length l.count-items ≡ length l.fired;
  raised : (v : ℕ) → v < l.count-index → slice_index l.count-items v ≡ slice_index l.fired v + 1;
  rest : (v : ℕ) → l.count-index ≤ v → slice_index l.count-items v ≡ slice_index l.fired v;
}
