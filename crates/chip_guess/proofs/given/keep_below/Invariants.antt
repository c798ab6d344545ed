use Rattle.std.proofs.Common.{ℕ, ◌<◌, ◌≤◌, slice_index}
use Rattle.chip_guess.proofs.given.keep_below.Given as goal

abbrev pub invariant-loop-index : goal.invariant-loop-index
invariant-loop-index l = (v : ℕ) → v < l.index → slice_index l.numbers v ≤ slice_index l.others v
