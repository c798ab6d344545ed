use Rattle.std.proofs.Common.{◌≡◌, ◌≢◌, ℕ, ◌<◌, slice_index}
use Rattle.chip_recurrent.proofs.rows.agree_off_sink.Given as goal

abbrev pub invariant-loop-vertex : goal.invariant-loop-vertex
invariant-loop-vertex l = (v : ℕ) → v < l.vertex → v ≢ l.graph.sink → slice_index l.chips v ≡ slice_index l.others v
