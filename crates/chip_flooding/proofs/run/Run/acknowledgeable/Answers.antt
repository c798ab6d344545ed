use Rattle.chip_flooding.proofs.Names.{arith, get_or_read, Ack}
use Rattle.chip_flooding.proofs.RunLemmas.{Acting, callable}
use Rattle.chip_flooding.proofs.run.Run.acknowledgeable.Goals as goal

pub may_ack-requires : goal.may_ack-requires
may_ack-requires c = let edge = rw (← c.self.view_is) at c.requires in
    let at = get_or_read c.self.inside.topology.heads.items c.args.edge _ (omega arith) c.index.ensures 0 in
    let a : Acting c.self.inside (Ack c.args.edge 0) c.index.result.now c.index-head.result.now = search arith in
    (callable a).0
