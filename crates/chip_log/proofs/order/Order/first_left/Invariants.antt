use Rattle.chip_log.proofs.Names.{◌≡◌, ℕ, ◌<◌, [], queue_of}
use Rattle.chip_log.proofs.order.Order.first_left.Given as goal

abbrev pub invariant-loop-process : goal.invariant-loop-process
invariant-loop-process l = (q : ℕ) → q < l.process → queue_of l.self.queues q ≡ []
