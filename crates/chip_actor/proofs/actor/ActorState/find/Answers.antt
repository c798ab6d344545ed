use Rattle.chip_actor.proofs.Names.{refl}
use Rattle.chip_actor.proofs.StandingLemmas.{among_ins, among_outs}
use Rattle.chip_actor.proofs.actor.ActorState.find.Goals as goal

-- the edge of an event of the vertex is among those that the actor keeps
pub slot_of-requires : goal.slot_of-requires
slot_of-requires c = let r = c.requires in
    rw (← c.self.view_is) at (among_ins r.0 r.1 c.args.self.now r.2 c.in-Take.edge (rw c.in-Take.is at r.3))

pub slot_of-requires-in-Ack : goal.slot_of-requires-in-Ack
slot_of-requires-in-Ack c = let r = c.requires in
    rw (← c.self.view_is) at (among_ins r.0 r.1 c.args.self.now r.2 c.in-Ack.edge (rw c.in-Ack.is at r.3))

pub slot_of-requires-in-Settle : goal.slot_of-requires-in-Settle
slot_of-requires-in-Settle c = let r = c.requires in
    rw (← c.self.view_is) at (among_outs r.0 r.1 c.args.self.now r.2 c.in-Settle.edge (rw c.in-Settle.is at r.3))

pub slot_of-requires-in-Clear : goal.slot_of-requires-in-Clear
slot_of-requires-in-Clear c = let r = c.requires in
    rw (← c.self.view_is) at (among_outs r.0 r.1 c.args.self.now r.2 c.in-Clear.edge (rw c.in-Clear.is at r.3))

pub slot_of-requires-in-Claim : goal.slot_of-requires-in-Claim
slot_of-requires-in-Claim c = let r = c.requires in
    rw (← c.self.view_is) at (among_outs r.0 r.1 c.args.self.now r.2 c.in-Claim.edge (rw c.in-Claim.is at r.3))

pub slot_of-requires-in-Put : goal.slot_of-requires-in-Put
slot_of-requires-in-Put c = let r = c.requires in
    rw (← c.self.view_is) at (among_outs r.0 r.1 c.args.self.now r.2 c.in-Put.edge (rw c.in-Put.is at r.3))

pub returns-in-Fire-clause-event : goal.returns-in-Fire-clause-event
returns-in-Fire-clause-event c = let own = rw c.in-Fire.is at c.requires.3 in rw (c.in-Fire.is, own) refl

pub returns-in-Halt-clause-event : goal.returns-in-Halt-clause-event
returns-in-Halt-clause-event c = let own = rw c.in-Halt.is at c.requires.3 in rw (c.in-Halt.is, own) refl
