use Rattle.chip_log.proofs.Names.{[], arith, below_more, get_or_past, dite, dec_lt, queue_of}
use Rattle.chip_log.proofs.OrderingLemmas.{head_none, some_left}
use Rattle.chip_log.proofs.order.Order.first_left.Goals as goal

pub returns-in-Some : goal.returns-in-Some
returns-in-Some c = (
  some_left (queue_of c.args.self.now.queues c.loop-process.process) c.in-Some.field-0
      (rw c.in-Some.is at c.first.ensures),
  c.loop-process.invariant,
)

pub loop-process-preserved : goal.loop-process-preserved
loop-process-preserved c = below_more _ _ c.loop-process.invariant
    (head_none (queue_of c.args.self.now.queues c.loop-process.process) (rw c.in_default.is at c.first.ensures))

pub returns : goal.returns
returns c = λ p. dite (dec_lt p c.args.sizes.processes)
    (λ l. let a = c.loop-process-test.false in c.loop-process.invariant p (omega arith))
    (λ no. let a = c.requires.processes in get_or_past c.args.self.now.queues p [] (omega arith))
