use Rattle.chip_sequence.proofs.Names.{◌≡◌, ◌+◌, ◌*◌, take, sum_by, slice_index, edge_at, edges_in}
use Rattle.chip_sequence.proofs.counted.income_and_cost.Given as goal

abbrev pub invariant-loop-e : goal.invariant-loop-e
invariant-loop-e l = l.had ≡ slice_index l.start l.vertex + sum_by
    (λ e. (edge_at l.graph e).mult * slice_index l.fired (edge_at l.graph e).tail)
    (take l.e-index (edges_in l.graph l.vertex))
