use Rattle.chip_sequence.proofs.Names.{◌≡◌, degree, greatest_below}
use Rattle.chip_sequence.proofs.bound.most_sent.Given as goal

abbrev pub invariant-loop-vertex : goal.invariant-loop-vertex
invariant-loop-vertex l = l.most ≡ greatest_below l.vertex (degree l.graph)
