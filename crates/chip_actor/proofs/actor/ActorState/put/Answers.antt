use Rattle.chip_actor.proofs.Names.{◌∙◌, sym, arith, the_view}
use Rattle.chip_actor.proofs.MakingLemmas.{some_unput, put_made}
use Rattle.chip_actor.proofs.actor.ActorState.put.Goals as goal

pub overflow_sub-self : goal.overflow_sub-self
overflow_sub-self c = let some = some_unput (the_view c.self.inside) c.args.slot.edge c.args.seen
    (rw (← c.self.view_is) at c.requires.can) in omega arith

pub returns : goal.returns
returns c = rw (← c.self.view_is)
    (put_made (the_view c.self.inside) c.args.slot.edge c.args.seen c.put.new.self c.unwrap-count.result
    (sym c.put.ensures.stored ∙ c.unwrap-count.ensures) c.put.ensures.after)
