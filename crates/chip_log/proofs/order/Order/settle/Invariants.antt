use Rattle.chip_log.proofs.Names.{OrderGoesOn, total}
use Rattle.chip_log.proofs.order.Order.settle.Given as goal

abbrev pub invariant-loop-self : goal.invariant-loop-self
invariant-loop-self l = OrderGoesOn l.fn.sizes l.initial.self l.self

abbrev pub decreases-loop-self : goal.decreases-loop-self
decreases-loop-self l = total l.self.queues
