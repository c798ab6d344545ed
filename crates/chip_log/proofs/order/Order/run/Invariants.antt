use Rattle.chip_log.proofs.Names.{OrderGoesOn, order_work_left}
use Rattle.chip_log.proofs.order.Order.run.Given as goal

abbrev pub invariant-loop-process : goal.invariant-loop-process
invariant-loop-process l = OrderGoesOn l.fn.sizes l.initial.self l.self

abbrev pub decreases-loop-process : goal.decreases-loop-process
decreases-loop-process l = order_work_left l.self
