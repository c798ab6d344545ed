use Rattle.chip_graph.proofs.Names.{◌-◌, findings}
use Rattle.chip_graph.proofs.SpreadingLemmas.{IsSpread}
use Rattle.chip_graph.proofs.distance.ins_and_distances.Given as goal

abbrev pub invariant-loop-next : goal.invariant-loop-next
invariant-loop-next l = IsSpread (record { vertices = l.vertices; sink = l.sink; edges = l.edges })
    (findings l.search) l.next

abbrev pub decreases-loop-next : goal.decreases-loop-next
decreases-loop-next l = l.vertices - l.next
