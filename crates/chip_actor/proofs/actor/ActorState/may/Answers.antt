use Rattle.chip_actor.proofs.Names.{refl}
use Rattle.chip_actor.proofs.actor.ActorState.may.Goals as goal

pub act_at-requires-clause-due : goal.act_at-requires-clause-due
act_at-requires-clause-due c = let r = c.requires in
    let own = rw (← c.find-found.ensures.event) at r.3 in
    (r.0, r.1, r.2, (own, rw (c.broken_rule.ensures r.0 r.1 r.2 own) at c.in-None.is))

pub returns-in-Some : goal.returns-in-Some
returns-in-Some c = λ g s stands at.
    let event = c.find-found.ensures.event in
    rw (← event, ← c.broken_rule.ensures g s stands (rw event (at)), c.in-Some.is) refl

pub returns-in-None : goal.returns-in-None
returns-in-None c = λ g s stands at.
    let event = c.find-found.ensures.event in
    let own = rw (← event) at (at) in let met = rw (c.broken_rule.ensures g s stands own) at c.in-None.is in
    rw (← event, met, c.act_at.ensures g s stands own met) refl
