use Rattle.chip_actor.proofs.Names.{refl}
use Rattle.chip_actor.proofs.StandingLemmas.{may_ack_is}
use Rattle.chip_actor.proofs.actor.ActorState.act_at.Goals as goal

pub returns-in-Ack : goal.returns-in-Ack
returns-in-Ack c = λ g s stands at met.
    let own = rw c.in-Ack.is at (at) in
    rw (c.in-Ack.is, c.may_ack.ensures, may_ack_is g s c.args.self.now stands c.in-Ack.slot.edge own) refl

pub returns-in-Halt : goal.returns-in-Halt
returns-in-Halt c = λ g s stands at met. rw (c.in-Halt.is, c.is_by_limit.ensures, c.cause.ensures g s stands) refl
