use Rattle.chip_log.proofs.Names.{arith}
use Rattle.chip_log.proofs.OrderingLemmas.{GoesOn-trans, looks, stays}
use Rattle.chip_log.proofs.order.Order.run.Goals as goal

pub loop-process-init : goal.loop-process-init
loop-process-init c = stays c.args.sizes c.args.self.now c.requires

pub turn-requires : goal.turn-requires
turn-requires c = record {
  ready = (looks c.args.sizes c.loop-process.self c.next.new.self c.loop-process.invariant.ready c.next.ensures.same.processes
      c.next.ensures.same.channels (let a = c.in-Some.ensures.cases.1 in omega arith)).ready;
  process = let a = c.in-Some.ensures.cases.0 in let b = c.loop-process.invariant.ready.agenda in omega arith;
}

pub loop-process-smaller : goal.loop-process-smaller
loop-process-smaller c =
    let a = c.in-Some.ensures.cases.1 in
    let b = c.in_ok-turn.ensures.less in
    omega arith

pub loop-process-preserved : goal.loop-process-preserved
loop-process-preserved c =
    let looked = looks c.args.sizes c.loop-process.self c.next.new.self c.loop-process.invariant.ready
    c.next.ensures.same.processes c.next.ensures.same.channels (let a = c.in-Some.ensures.cases.1 in omega arith) in
    GoesOn-trans c.args.sizes c.args.self.now c.loop-process.self c.turn.new.self c.loop-process.invariant
    (GoesOn-trans c.args.sizes c.loop-process.self _ c.turn.new.self looked c.in_ok-turn.ensures)

pub returns : goal.returns
returns c = GoesOn-trans c.args.sizes c.args.self.now c.loop-process.self _ c.loop-process.invariant
    (looks c.args.sizes c.loop-process.self c.next.new.self c.loop-process.invariant.ready
    c.next.ensures.same.processes c.next.ensures.same.channels (let a = c.in_default.ensures.cases in omega arith))
