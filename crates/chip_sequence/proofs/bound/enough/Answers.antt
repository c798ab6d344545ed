use Rattle.std.proofs.Common.{sym}
use Rattle.chip_sequence.proofs.BoundLemmas.{too_far}
use Rattle.chip_sequence.proofs.bound.enough.Goals as goal

pub returns-in_err-bound : goal.returns-in_err-bound
returns-in_err-bound c = (
  c.furthest-end.result,
  c.furthest-end.ensures,
  rw (c.from_residual.ensures, sym c.most_sent-degree.ensures)
      (too_far c.args.total c.most_sent-degree.result c.loop.bound c.loop.counter c.furthest-end.result
      c.loop.invariant.is c.loop-test.true c.in_err-bound.ensures),
)
