use Rattle.chip_trace.proofs.Names.{map, NoneBelow, IsWrongAt}
use Rattle.chip_trace.proofs.verdict.first_wrong.Given as goal

abbrev pub invariant-loop-vertex : goal.invariant-loop-vertex
invariant-loop-vertex l = NoneBelow l.vertex (IsWrongAt l.game (map (λ t. t.items) l.traces) l.progress)
