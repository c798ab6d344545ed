use Rattle.chip_trace.proofs.Names.{map, NoneBelow, IsUnusedAt}
use Rattle.chip_trace.proofs.verdict.first_unused.Given as goal

abbrev pub invariant-loop-vertex : goal.invariant-loop-vertex
invariant-loop-vertex l = NoneBelow l.vertex (IsUnusedAt (map (λ t. t.items) l.traces) l.progress)
