use Rattle.chip_file.proofs.Names.{◌≡◌, [], map, replicate}
use Rattle.chip_file.proofs.trace.empty_traces.Given as goal

abbrev pub invariant-loop : goal.invariant-loop
invariant-loop l = map (λ trace. trace.items) l.traces.items ≡ replicate l.counter []
