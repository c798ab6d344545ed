use Rattle.chip_log.proofs.Names.{arith}
use Rattle.chip_log.proofs.OrderingLemmas.{made, made_fewer, GoesOn-trans, stays}
use Rattle.chip_log.proofs.order.Order.settle.Goals as goal

pub loop-self-init : goal.loop-self-init
loop-self-init c = stays c.args.sizes c.args.self.now c.requires

pub loop-self-smaller : goal.loop-self-smaller
loop-self-smaller c =
    let a = c.in_ok-run.ensures.fewer in
    let b = made_fewer c.args.sizes c.run.new.self c.make.new.self c.in-Some.process c.in-Some.step c.in-Some.ensures.1.0
    c.in_ok-run.ensures.ready c.in-Some.ensures.0 c.in-Some.ensures.1.1 c.in-Some.ensures.2 c.in_ok-make-in-Some.ensures in
    omega arith

pub loop-self-preserved : goal.loop-self-preserved
loop-self-preserved c =
    GoesOn-trans c.args.sizes c.args.self.now c.loop-self.self c.make.new.self c.loop-self.invariant
    (GoesOn-trans c.args.sizes c.loop-self.self c.run.new.self c.make.new.self c.in_ok-run.ensures
    (made c.args.sizes c.run.new.self c.make.new.self c.in-Some.process c.in-Some.step c.in-Some.ensures.1.0
    c.in_ok-run.ensures.ready c.in-Some.ensures.0 c.in-Some.ensures.1.1 c.in-Some.ensures.2 c.in_ok-make-in-Some.ensures))

pub returns-in-None : goal.returns-in-None
returns-in-None c = record {
  goes_on = GoesOn-trans c.args.sizes c.args.self.now c.loop-self.self c.run.new.self c.loop-self.invariant
      c.in_ok-run.ensures;
  settled = c.in-None.ensures;
}
