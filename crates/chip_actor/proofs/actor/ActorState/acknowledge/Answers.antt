use Rattle.chip_actor.proofs.Names.{the_view}
use Rattle.chip_actor.proofs.MakingLemmas.{ack_made}
use Rattle.chip_actor.proofs.actor.ActorState.acknowledge.Goals as goal

pub returns-clause-makes : goal.returns-clause-makes
returns-clause-makes c = rw (← c.self.view_is)
    (ack_made (the_view c.self.inside) c.args.slot.edge c.args.seen c.args.count c.acked_at.new.self
    (rw (← c.self.view_is) at c.requires.count)
    c.acked_at.ensures.acknowledges c.acked_at.ensures.sound)
