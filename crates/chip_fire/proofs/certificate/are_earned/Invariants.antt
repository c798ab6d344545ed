use Rattle.std.proofs.Common.{ℕ, ◌<◌, slice_index}
use Rattle.chip_sequence.specs.Certificate.{IsEarned}
use Rattle.chip_fire.proofs.certificate.are_earned.Given as goal

abbrev pub invariant-loop-vertex : goal.invariant-loop-vertex
invariant-loop-vertex l = (v : ℕ) → v < l.vertex → slice_index l.fired v < slice_index l.counts v
    → IsEarned l.game.graph (slice_index l.game.start) l.game.limit (slice_index l.counts) v
