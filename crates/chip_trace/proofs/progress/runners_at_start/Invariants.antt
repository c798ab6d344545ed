use Rattle.chip_trace.proofs.Names.{◌≡◌, replicate, at_start}
use Rattle.chip_trace.proofs.progress.runners_at_start.Given as goal

abbrev pub invariant-loop : goal.invariant-loop
invariant-loop l = l.runners.items ≡ replicate l.counter at_start
