use Rattle.std.proofs.Common.{◌≡◌, ℕ, ◌<◌, length, slice_index}
use Rattle.chip_sequence.specs.Stages.{fired_in_all}
use Rattle.chip_engine.proofs.guess.counts_in_all.Given as goal

abbrev pub invariant-loop-vertex : goal.invariant-loop-vertex
invariant-loop-vertex l =
    (length l.counts.items ≡ l.vertex)
    × ((v : ℕ) → v < l.vertex → slice_index l.counts.items v ≡ fired_in_all l.told v)
