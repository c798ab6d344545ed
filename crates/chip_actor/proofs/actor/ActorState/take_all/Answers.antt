use Rattle.chip_actor.proofs.Names.{the_view}
use Rattle.chip_actor.proofs.actor.ActorState.take_all.Goals as goal

pub take_all-requires : goal.take_all-requires
take_all-requires g c = (
  the_view c.self.inside,
  rw (← c.self.view_is) at c.requires,
)

pub returns-clause-moves : goal.returns-clause-moves
returns-clause-moves g c = rw (← c.self.view_is)
    (c.take_all.ensures.moves (the_view c.self.inside) (rw (← c.self.view_is) at c.requires))
