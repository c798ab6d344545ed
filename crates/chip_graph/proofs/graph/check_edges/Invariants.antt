use Rattle.chip_graph.proofs.Names.{◌≡◌, drop, fault_of_edges}
use Rattle.chip_graph.proofs.graph.check_edges.Given as goal

abbrev pub invariant-loop-i : goal.invariant-loop-i
invariant-loop-i l = fault_of_edges l.vertices l.sink 0 l.edges
    ≡ fault_of_edges l.vertices l.sink l.i (drop l.i l.edges)
