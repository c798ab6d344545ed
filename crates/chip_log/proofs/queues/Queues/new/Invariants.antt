use Rattle.chip_log.proofs.Names.{◌≡◌, [], map, replicate}
use Rattle.chip_log.proofs.queues.Queues.new.Given as goal

abbrev pub invariant-loop-process : goal.invariant-loop-process
invariant-loop-process l = map (λ q. q.items) l.steps.items ≡ replicate l._process []
