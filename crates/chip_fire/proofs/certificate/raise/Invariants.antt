use Rattle.std.proofs.Common.{ℕ, ◌≤◌, max, slice_index}
use Rattle.chip_fire.specs.Rounds.{OnlyRise}
use Rattle.chip_fire.proofs.certificate.raise.Given as goal

abbrev pub invariant-loop-index : goal.invariant-loop-index
invariant-loop-index l = record {
  below : (v : ℕ) → slice_index l.numbers v ≤ max (slice_index l.fn.numbers v) (slice_index l.others v);
  rises : OnlyRise l.fn.numbers l.numbers;
}
