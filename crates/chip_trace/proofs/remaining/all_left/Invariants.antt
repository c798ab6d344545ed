use Rattle.chip_trace.proofs.Names.{◌≡◌, ◌++◌, edges_and_roots, kept_edges, kept_vertices}
use Rattle.chip_trace.proofs.remaining.all_left.Given as goal

abbrev pub invariant-loop-edge : goal.invariant-loop-edge
invariant-loop-edge l = l.left.items ≡ kept_edges l.game l.progress l.edge

abbrev pub invariant-loop-vertex : goal.invariant-loop-vertex
invariant-loop-vertex l =
    l.left.items ≡ kept_edges l.game l.progress (edges_and_roots l.game.graph) ++ kept_vertices l.game l.progress l.vertex
