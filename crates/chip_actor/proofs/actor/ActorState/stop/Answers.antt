use Rattle.chip_actor.proofs.Names.{refl, ne_eqb, the_view}
use Rattle.chip_actor.proofs.MakingLemmas.{halt_made}
use Rattle.chip_actor.proofs.actor.ActorState.stop.Goals as goal

pub returns-then-self-eq0 : goal.returns-then-self-eq0
returns-then-self-eq0 c = rw (← c.self.view_is)
    (halt_made (the_view c.self.inside) c.args.seen c.cause-self-inside.result 1
    (rw (← c.self.view_is) at c.cause-self-inside.ensures) (rw c.if-self-eq0.true refl))

pub returns : goal.returns
returns c = rw (← c.self.view_is)
    (halt_made (the_view c.self.inside) c.args.seen c.cause-self-inside.result 0
    (rw (← c.self.view_is) at c.cause-self-inside.ensures) (rw (ne_eqb _ 0 c.if-self-eq0.false) refl))
