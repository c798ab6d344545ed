use Rattle.chip_log.proofs.Names.{arith}
use Rattle.chip_log.proofs.FirstLemmas.{has_row, has_none}
use Rattle.chip_log.proofs.absent.first_absent.Goals as goal

pub returns-then-not-has_row : goal.returns-then-not-has_row
returns-then-not-has_row c = λ sizes log are. (
  c.loop-process-test.true,
  has_none sizes log c.args.beginners.now are c.loop-process.process
      (let a = c.has_row.ensures in let b = c.if-not-has_row.true in cc),
  λ q less. has_row sizes log c.args.beginners.now are q (c.loop-process.invariant q less),
)

pub returns : goal.returns
returns c = λ sizes log are q less. has_row sizes log c.args.beginners.now are q
    (c.loop-process.invariant q (let a = c.loop-process-test.false in omega arith))
