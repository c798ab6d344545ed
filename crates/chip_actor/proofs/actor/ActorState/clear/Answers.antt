use Rattle.chip_actor.proofs.Names.{the_view}
use Rattle.chip_actor.proofs.MakingLemmas.{clear_made}
use Rattle.chip_actor.proofs.actor.ActorState.clear.Goals as goal

pub returns-in_default : goal.returns-in_default
returns-in_default c = rw (← c.self.view_is)
    (rw c.in_default.is at
    (clear_made (the_view c.self.inside) c.args.slot.edge c.args.seen c.clear.new.self c.clear.result
    c.clear.ensures.words c.clear.ensures.after))

pub returns : goal.returns
returns c = rw (← c.self.view_is)
    (rw c.in-Some.is at
    (clear_made (the_view c.self.inside) c.args.slot.edge c.args.seen c.clear.new.self c.clear.result
    c.clear.ensures.words c.clear.ensures.after))
