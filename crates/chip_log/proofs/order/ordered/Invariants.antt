use Rattle.chip_log.proofs.OrderLemmas.{IsSoFar}
use Rattle.chip_log.proofs.order.ordered.Given as goal

abbrev pub invariant-loop-row : goal.invariant-loop-row
invariant-loop-row g l = IsSoFar l.fn.sizes l.rows l.row-index l.order
