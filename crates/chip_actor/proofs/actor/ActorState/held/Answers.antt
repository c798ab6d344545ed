use Rattle.chip_actor.proofs.StandingLemmas.{among_outs}
use Rattle.chip_actor.proofs.actor.ActorState.held.Goals as goal

pub slot_of-requires : goal.slot_of-requires
slot_of-requires c = let r = c.requires in
    rw (← c.self.view_is) at (among_outs r.0 r.1 c.args.self.now r.2 c.args.edge r.3)
