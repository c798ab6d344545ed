use Rattle.chip_crew.proofs.Names.{◌^◌, ◌≡◌, ◌+◌, ◌*◌, ◌≤◌, length, None, vec_capacity, AreFrom, all_turns, ends_before}
use Rattle.chip_crew.proofs.Names.{IsShareStart, AreReady}
use Rattle.chip_crew.proofs.dealing.deal.Given as goal

abbrev pub invariant-loop-worker : goal.invariant-loop-worker
invariant-loop-worker g l = record {
  first_is : IsShareStart l.graph l.workers l.worker l.first;
  ends_are : l.ends ≡ ends_before l.graph l.first;
  few : l.ends ≤ l.first * (2 ^ 24 + 1);
  actors : AreFrom g.B.Crew.asked.crew l.first l.actors.items;
  no_turns : all_turns l.actors.items ≡ 0;
  whole : l.first + length l.actors.items ≡ l.graph.vertices;
  shares : AreReady g.B.Crew.asked None l.all.items;
  count : length l.all.items ≡ l.worker;
  room : l.workers ≤ vec_capacity l.all;
}
