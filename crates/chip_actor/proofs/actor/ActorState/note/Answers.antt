use Rattle.chip_actor.proofs.actor.ActorState.note.Goals as goal

pub returns-in-Ack : goal.returns-in-Ack
returns-in-Ack c = rw c.in-Ack.is c.acknowledge.ensures.makes
