use Rattle.std.proofs.Common.{◌≡◌, ◌+◌, ◌<◌, ◌≤◌, length, take, drop, slice_index}
use Rattle.chip_sequence.specs.Certificate.{IsOnTheWay}
use Rattle.chip_fire.specs.Rounds.{IsInRange, OnlyRise, firings_left}
use Rattle.chip_fire.specs.Timed.{AreFound}
use Rattle.chip_fire.specs.WorkList.{AreTheLegal}
use Rattle.chip_fire.proofs.work_list.work_off.Given as goal

abbrev pub invariant-loop-made : goal.invariant-loop-made
invariant-loop-made l = record {
  in_range : IsInRange l.graph l.limit l.chips l.fired;
  on_the_way : IsOnTheWay l.graph (slice_index l.game.start) l.limit (slice_index l.chips) (slice_index l.fired);
  room : l.first + l.listed ≤ length l.queue;
  legal : AreTheLegal l.graph l.chips (take l.listed (drop l.first l.queue));
  rises : OnlyRise l.initial.fired l.fired;
  each_fires : firings_left l.graph l.limit l.fired + l.made ≤ firings_left l.graph l.limit l.initial.fired;
  noted : 0 < length l.before → (length l.before ≡ l.graph.vertices) × (length l.support ≡ l.graph.vertices)
      × AreFound l.graph.vertices l.before l.fired l.support l.noted;
}
