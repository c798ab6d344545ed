use Rattle.std.proofs.Common.{◌≡◌, ◌↔◌, ℕ, ◌<◌, slice_index}
use Rattle.chip_sequence.specs.Firing.{IsLegal}
use Rattle.chip_fire.proofs.play.Play.waiting_chips.Given as goal

abbrev pub invariant-loop-vertex : goal.invariant-loop-vertex
invariant-loop-vertex l = (l.waits ≡ 0) ↔ ((v : ℕ) → v < l.vertex
    → IsLegal l.self.game.graph (slice_index l.self.chips) v
    → slice_index l.self.fired v ≡ l.self.game.limit)
