use Rattle.std.proofs.Common.{◌≡◌, ◌≤◌, ◌^◌, sum, take}
use Rattle.chip_graph.proofs.game.total_of.Given as goal

abbrev pub invariant-loop-count : goal.invariant-loop-count
invariant-loop-count l = record { so_far : l.total ≡ sum (take l.count-index l.chips); few : l.total ≤ 2 ^ 40 }
