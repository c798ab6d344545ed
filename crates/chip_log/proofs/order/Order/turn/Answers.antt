use Rattle.chip_log.proofs.Names.{arith, queue_of}
use Rattle.chip_log.proofs.OrderingLemmas.{made, head_some, next_in_flight, in_channel}
use Rattle.chip_log.proofs.order.Order.turn.Goals as goal

pub may-requires : goal.may-requires
may-requires c = next_in_flight c.args.sizes c.args.self.now c.requires.ready c.args.process c.in-Some.step
    (head_some (queue_of c.args.self.now.queues c.args.process) c.in-Some.step c.in-Some.ensures)

pub note-requires-clause-is_stream : goal.note-requires-clause-is_stream
note-requires-clause-is_stream c =
    let a = in_channel c.args.sizes c.args.self.now c.requires.ready c.args.process c.in-Some.step
    (head_some (queue_of c.args.self.now.queues c.args.process) c.in-Some.step c.in-Some.ensures) c.in-In.stream c.in-In.is in
    let b = c.requires.ready.channels in
    omega arith

pub returns-in_ok-make : goal.returns-in_ok-make
returns-in_ok-make c =
    let next = head_some (queue_of c.args.self.now.queues c.args.process) c.in-Some.step c.in-Some.ensures in
    made c.args.sizes c.args.self.now c.make.new.self c.args.process c.in-Some.step next.0 c.requires.ready c.requires.process
    next.1 (rw c.may.ensures at c.if-may.true) c.in_ok-make.ensures
