use Rattle.chip_log.proofs.Names.{arith, take_all, nat_tests}
use Rattle.chip_log.proofs.LoopLemmas.{no_row}
use Rattle.chip_log.proofs.OrderLemmas.{count_next}
use Rattle.chip_log.proofs.order.rows_of.Goals as goal

pub loop-row-preserved : goal.loop-row-preserved
loop-row-preserved c =
    let a = count_next c.args.process c.args.rows.now c.loop-row.row-index no_row c.loop-row-test.true in
    let b = c.loop-row.invariant.few in
    let d = c.loop-row.invariant.count in
    record { few = grind (arith, nat_tests); count = grind (arith, nat_tests) }

pub returns : goal.returns
returns c = rw (take_all c.loop-row.row-index c.args.rows.now c.loop-row-test.false) at c.loop-row.invariant.count
