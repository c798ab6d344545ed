use Rattle.std.proofs.Common.{◌≡◌, ◌≤◌, length, take}
use Rattle.chip_fire.specs.WorkList.{IsSent, AreTheLegal}
use Rattle.chip_fire.proofs.durations.fire_once.Given as goal

abbrev pub invariant-loop-link : goal.invariant-loop-link
invariant-loop-link l = record {
  sent : IsSent l.graph 1 l.links l.initial.chips l.link-index l.chips;
  fits : l.listed ≤ length l.list;
  kept : (l.fn.listed ≤ l.listed) × (take l.fn.listed l.list ≡ take l.fn.listed l.fn.list);
  listed : AreTheLegal l.graph l.chips (take l.listed l.list);
}
