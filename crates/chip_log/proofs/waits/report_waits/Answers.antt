use Rattle.chip_log.proofs.Names.{queue_of, arith}
use Rattle.chip_log.proofs.OrderingLemmas.{head_some, in_channel}
use Rattle.chip_log.proofs.waits.report_waits.Goals as goal

pub first-requires : goal.first-requires
first-requires g c = let a = c.loop-wait.invariant.3 in let b = c.requires.ready.processes in omega arith

pub wake-requires : goal.wake-requires
wake-requires g c =
    let a = in_channel c.args.sizes c.args.order.now c.requires.ready c.loop-wait.last c.in-Some-In.field-0
    (head_some (queue_of c.args.order.now.queues c.loop-wait.last) c.in-Some-In.field-0 c.in-Some-In.ensures)
    c.in-Some-In.stream c.in-Some-In.field-0-is in
    let b = c.loop-wait.invariant.1 in let d = c.requires.ready.channels in omega arith
