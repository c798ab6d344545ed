use Rattle.std.proofs.Common.{◌≡◌, ℕ, ◌+◌, ◌<◌, ◌≤◌, length, take, slice_index}
use Rattle.chip_sequence.specs.Certificate.{IsOnTheWay}
use Rattle.chip_sequence.specs.Firing.{IsStable}
use Rattle.chip_fire.specs.Rounds.{IsInRange, firings_left}
use Rattle.chip_fire.specs.WorkList.{AreTheLegal}
use Rattle.chip_fire.specs.Timed.{AreFound}
use Rattle.chip_fire.specs.Measured.{after_rounds}
use Rattle.chip_fire.proofs.durations.fire_in_rounds.Given as goal

abbrev pub decreases-rounds : goal.decreases-rounds
decreases-rounds l = firings_left l.graph l.limit l.fired

abbrev pub invariant-rounds : goal.invariant-rounds
invariant-rounds l = record {
  in_range : IsInRange l.graph l.limit l.chips l.fired;
  on_the_way : IsOnTheWay l.graph (slice_index l.game.start) l.limit (slice_index l.chips) (slice_index l.fired);
  found : AreFound l.graph.vertices l.before l.fired l.support l.found;
  listed : l.listed ≤ length l.queue;
  legal : AreTheLegal l.graph l.chips (take l.listed l.queue);
  position : (u : ℕ) → slice_index l.chips u ≡ after_rounds l.graph (slice_index l.fn.chips) l.rounds u;
  going : (k : ℕ) → k < l.rounds → IsStable l.graph (after_rounds l.graph (slice_index l.fn.chips) k) → ⊥;
  few : firings_left l.graph l.limit l.fired + l.rounds ≤ firings_left l.graph l.limit l.fn.fired;
}
