use Rattle.std.proofs.Common.{◌≡◌, ℕ, ◌<◌, slice_index}
use Rattle.chip_fire.proofs.given.takes_none.Given as goal

abbrev pub invariant-loop-times : goal.invariant-loop-times
invariant-loop-times l = (v : ℕ) → v < l.times-index → slice_index l.fired v ≡ 0
