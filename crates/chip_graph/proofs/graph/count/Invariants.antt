use Rattle.chip_graph.proofs.Names.{◌≡◌, ℕ, ◌<◌, drop, IsEdge, edge_of, AreCounted, fault_of_edges}
use Rattle.chip_graph.proofs.graph.count.Given as goal

abbrev pub invariant-loop-i : goal.invariant-loop-i
invariant-loop-i l = record {
  so_far : fault_of_edges l.vertices l.sink 0 l.edges ≡ fault_of_edges l.vertices l.sink l.i (drop l.i l.edges);
  sound : (e : ℕ) → e < l.i → IsEdge l.vertices l.sink (edge_of l.edges e);
  counted : AreCounted l.edges l.vertices l.i l.counts;
}
