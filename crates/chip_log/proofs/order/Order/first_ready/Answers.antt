use Rattle.chip_log.proofs.Names.{[], arith, below_more, get_or_past, dite, dec_lt, queue_of}
use Rattle.chip_log.proofs.OrderingLemmas.{head_some, head_none, one_next, no_next, next_in_flight}
use Rattle.chip_log.proofs.order.Order.first_ready.Goals.{in-Some+else-may, in_default}
use Rattle.chip_log.proofs.order.Order.first_ready.Goals as goal

pub may-requires : goal.may-requires
may-requires c = next_in_flight c.args.sizes c.args.self.now c.requires c.loop-process.process c.in-Some.step
    (head_some (queue_of c.args.self.now.queues c.loop-process.process) c.in-Some.step
    (rw c.in-Some.is at c.first.ensures))

pub returns-then-may : goal.returns-then-may
returns-then-may c = (
  c.loop-process-test.true,
  head_some (queue_of c.args.self.now.queues c.loop-process.process) c.in-Some.step
      (rw c.in-Some.is at c.first.ensures),
  rw c.may.ensures at c.if-may.true,
)

pub loop-process-preserved : goal.loop-process-preserved
loop-process-preserved c = below_more _ _ c.loop-process.invariant
    (elim c.match-first.branch [
      | in-Some+else-may w ↦ λ step next.
          rw (
            one_next c.args.self.now c.loop-process.process w.in-Some.step step
                (rw w.in-Some.is at c.first.ensures) next,
            ← w.may.ensures,
          ) w.if-may.false
      | in_default w ↦ λ step next. absurd (no_next c.args.self.now c.loop-process.process step
          (head_none (queue_of c.args.self.now.queues c.loop-process.process)
          (rw w.in_default.is at c.first.ensures)) next)
    ])

pub returns : goal.returns
returns c = λ p step next. dite (dec_lt p c.args.sizes.processes)
    (λ l. let a = c.loop-process-test.false in c.loop-process.invariant p (omega arith) step next)
    (λ no. let a = c.requires.processes in absurd (no_next c.args.self.now p step
    (get_or_past c.args.self.now.queues p [] (omega arith)) next))
