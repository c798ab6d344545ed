use Rattle.std.proofs.Common.{◌≡◌, ℕ, ◌+◌, ◌-◌, ◌≤◌, length, take, drop, slice_index}
use Rattle.chip_sequence.specs.Sequence.{position_after}
use Rattle.chip_fire.specs.Rounds.{IsInRange, StaysOnTheWay, firings_left}
use Rattle.chip_fire.specs.WorkList.{AreTheLegal}
use Rattle.chip_fire.specs.Timed.{AreFound}
use Rattle.chip_fire.proofs.durations.round.Given as goal

abbrev pub invariant-loop-place : goal.invariant-loop-place
invariant-loop-place l = record {
  in_range : IsInRange l.graph l.limit l.chips l.fired;
  stays : StaysOnTheWay l.graph l.limit l.fn.chips l.fn.fired l.chips l.fired;
  found : AreFound l.graph.vertices l.before l.fired l.support l.found;
  fits : l.place + l.waiting ≤ length l.queue;
  enough : l.listed ≤ l.place + l.waiting;
  legal : AreTheLegal l.graph l.chips (take l.waiting (drop l.place l.queue));
  rest : take (l.listed - l.place) (drop l.place l.queue) ≡ drop l.place (take l.listed l.fn.queue);
  position : (u : ℕ) → slice_index l.chips u
      ≡ position_after l.graph (slice_index l.fn.chips) (take l.place (take l.listed l.fn.queue)) u;
  each_fires : firings_left l.graph l.limit l.fired + l.place ≤ firings_left l.graph l.limit l.fn.fired;
}
