use Rattle.chip_actor.proofs.Names.{the_view}
use Rattle.chip_actor.proofs.MakingLemmas.{settle_made}
use Rattle.chip_actor.proofs.actor.ActorState.settle.Goals as goal

pub returns : goal.returns
returns c = rw (← c.self.view_is)
    (settle_made (the_view c.self.inside) c.args.slot.edge c.args.seen c.settled_at.result c.settled_at.new.self
    c.settled_at.ensures.more c.settled_at.ensures.settles c.settled_at.ensures.sound)
