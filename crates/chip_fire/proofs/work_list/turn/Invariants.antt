use Rattle.std.proofs.Common.{◌+◌, ◌≤◌, take}
use Rattle.chip_fire.specs.WorkList.{AreTheLegal, IsSent}
use Rattle.chip_fire.proofs.work_list.turn.Given as goal

abbrev pub invariant-loop-link : goal.invariant-loop-link
invariant-loop-link l = record {
  sent : IsSent l.graph l.k l.links l.initial.chips l.link-index l.chips;
  room : l.listed ≤ l.fn.listed + l.link-index;
  listed : AreTheLegal l.graph l.chips (take l.listed l.list);
}
