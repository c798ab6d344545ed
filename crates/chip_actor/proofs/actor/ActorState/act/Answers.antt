use Rattle.chip_actor.proofs.actor.ActorState.act.Goals as goal

pub act_at-requires-clause-due : goal.act_at-requires-clause-due
act_at-requires-clause-due c = rw c.find.ensures.event c.requires

pub returns : goal.returns
returns c = λ g s stands at met.
    let event = c.find.ensures.event in
    rw (← event) (c.act_at.ensures g s stands (rw event (at)) (rw event met))
