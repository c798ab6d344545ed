use Rattle.chip_log.proofs.Names.{arith}
use Rattle.chip_log.proofs.OrderingLemmas.{out_channel, in_channel, out_room}
use Rattle.chip_log.proofs.order.Order.make.Goals as goal

pub add-requires-in-Out-clause-is_stream : goal.add-requires-in-Out-clause-is_stream
add-requires-in-Out-clause-is_stream c =
    let a = out_channel c.args.sizes c.args.self.now c.requires.ready c.args.process c.args.step c.requires.next
    c.in-Out.stream c.in-Out.is in
    let b = c.requires.ready.streams in
    omega arith

pub add-requires-in-Out-clause-room : goal.add-requires-in-Out-clause-room
add-requires-in-Out-clause-room c =
    out_room c.args.sizes c.args.self.now c.requires.ready c.args.process c.args.step c.requires.next c.in-Out.stream

pub wake-requires : goal.wake-requires
wake-requires c =
    let a = out_channel c.args.sizes c.args.self.now c.requires.ready c.args.process c.args.step c.requires.next
    c.in-Out.stream c.in-Out.is in
    let b = c.requires.ready.channels in
    let d = c.add.ensures.same.channels in
    omega arith

pub remove-requires-clause-is_stream : goal.remove-requires-clause-is_stream
remove-requires-clause-is_stream c =
    let a = in_channel c.args.sizes c.args.self.now c.requires.ready c.args.process c.args.step c.requires.next
    c.in-In.stream c.in-In.is in
    let b = c.requires.ready.streams in
    omega arith
