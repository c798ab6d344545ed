use Rattle.chip_actor.proofs.Names.{the_view}
use Rattle.chip_actor.proofs.MakingLemmas.{fire_fits, fire_made}
use Rattle.chip_actor.proofs.actor.ActorState.fire.Goals as goal

pub fire-requires : goal.fire-requires
fire-requires c = fire_fits (the_view c.self.inside) c.args.k c.args.seen
    (rw (← c.self.view_is) at c.requires)

pub returns : goal.returns
returns c = rw (← c.self.view_is)
    (fire_made (the_view c.self.inside) c.args.k c.args.seen c.fire.new.self c.fire.ensures)
