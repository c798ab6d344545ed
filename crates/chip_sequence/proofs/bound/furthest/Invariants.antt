use Rattle.chip_sequence.proofs.BoundLemmas.{IsGreatestBelow}
use Rattle.chip_sequence.proofs.bound.furthest.Given as goal

abbrev pub invariant-loop-vertex : goal.invariant-loop-vertex
invariant-loop-vertex l = IsGreatestBelow l.graph l.vertex l.distance
