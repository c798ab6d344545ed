use Rattle.chip_graph.proofs.Names.{◌≡◌, ◌+◌, ◌≤◌, ◌^◌, take, all_brought}
use Rattle.chip_graph.proofs.game.total_with.Given as goal

abbrev pub invariant-loop-count : goal.invariant-loop-count
invariant-loop-count l = record {
  so_far : l.all ≡ l.total + all_brought (take l.count-index l.more);
  few : l.all ≤ 2 ^ 40;
}
