use Rattle.chip_log.proofs.Names.{arith}
use Rattle.chip_log.proofs.LoopLemmas.{no_row}
use Rattle.chip_log.proofs.OrderLemmas.{whole_order, stuck_order, row_fits, now_ready, read_on, none_read, all_read}
use Rattle.chip_log.proofs.order.ordered.Goals as goal

pub loop-row-init : goal.loop-row-init
loop-row-init g c = none_read c.args.sizes c.args.rows.now c.in_ok-order.order c.in_ok-order.ensures.ready
    c.in_ok-order.ensures.none c.in_ok-order.ensures.total

pub read-requires : goal.read-requires
read-requires g c =
    let fits = row_fits c.args.sizes c.args.rows.now c.requires.well_formed c.loop-row.row-index no_row c.loop-row-test.true in
    let ready = c.loop-row.invariant.ready in
    record {
      queue = let a = fits.process in let b = ready.processes in omega arith;
      process = let a = fits.process in let b = ready.agenda in omega arith;
    }

pub run-requires : goal.run-requires
run-requires g c = now_ready c.args.sizes c.args.rows.now c.requires.well_formed c.requires.few c.loop-row.row-index no_row
    c.loop-row-test.true c.loop-row.order c.read.new.self c.loop-row.invariant c.in_ok-read.ensures

pub loop-row-preserved : goal.loop-row-preserved
loop-row-preserved g c = read_on c.args.sizes c.args.rows.now c.requires.well_formed c.requires.few c.loop-row.row-index no_row
    c.loop-row-test.true c.loop-row.order c.read.new.self c.loop-row.invariant c.in_ok-read.ensures
    c.run.new.self c.in_ok-run.ensures

pub returns-in-Some-clause-order : goal.returns-in-Some-clause-order
returns-in-Some-clause-order g c =
    let kept = all_read c.args.sizes c.args.rows.now c.requires.well_formed c.loop-row.row-index c.loop-row-test.false
    c.loop-row.order c.settle.new.self c.loop-row.invariant c.in_ok-settle.ensures.goes_on in
    rw (c.rows_of.ensures, c.deref.ensures.value)
    (stuck_order c.args.sizes c.args.rows.now c.settle.new.self c.in_ok-settle.ensures.goes_on.ready kept
    c.in_ok-settle.ensures.settled c.in-Some.process c.in-Some.ensures)

pub returns-in-None-clause-order : goal.returns-in-None-clause-order
returns-in-None-clause-order g c = whole_order c.args.sizes c.args.rows.now c.settle.new.self c.in_ok-settle.ensures.goes_on.ready
    (all_read c.args.sizes c.args.rows.now c.requires.well_formed c.loop-row.row-index c.loop-row-test.false
    c.loop-row.order c.settle.new.self c.loop-row.invariant c.in_ok-settle.ensures.goes_on) c.in-None.ensures
