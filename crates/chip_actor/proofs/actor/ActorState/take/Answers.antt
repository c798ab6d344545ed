use Rattle.chip_actor.proofs.Names.{◌∙◌, sym, the_view}
use Rattle.chip_actor.proofs.MakingLemmas.{take_made, take_empty}
use Rattle.chip_actor.proofs.actor.ActorState.take.Goals as goal

pub returns-in_default : goal.returns-in_default
returns-in_default c = rw (← c.self.view_is)
    (take_empty (the_view c.self.inside) c.args.slot.edge c.args.seen c.take.new.self c.take.ensures.after
    (sym c.in_default.is ∙ c.take.ensures.message))

pub returns : goal.returns
returns c = rw (← c.self.view_is)
    (take_made (the_view c.self.inside) c.args.slot.edge c.args.seen c.take.new.self c.got_at.new.self c.in-Some.message
    c.take.ensures.after (sym c.in-Some.is ∙ c.take.ensures.message) c.got_at.ensures.gets c.got_at.ensures.sound)
