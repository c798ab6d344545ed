use Rattle.chip_trace.proofs.Names.{◌+◌, arith}
use Rattle.chip_trace.proofs.NumberLemmas.{product_fits}
use Rattle.chip_trace.proofs.runner.Runner.can_pay.Goals as goal

pub overflow_mul-result : goal.overflow_mul-result
overflow_mul-result c = omega (
  arith,
  product_fits (c.from.result + c.from-2.result) c.from-then-firings-from.result
      (omega (arith, c.ranges.limit.fits)) (omega (arith, c.ranges.degree.fits)),
)
