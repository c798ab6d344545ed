use Rattle.chip_actor.proofs.actor.ActorState.broken_rule.Goals as goal

-- each arm checks its own event
pub returns-in-Ack : goal.returns-in-Ack
returns-in-Ack c = λ g s stands at.
    rw c.in-Ack.is (c.ack_rule.ensures g s stands (rw c.in-Ack.is at (at)))

pub returns-in-Clear : goal.returns-in-Clear
returns-in-Clear c = λ g s stands at.
    rw c.in-Clear.is (c.clear_rule.ensures g s stands (rw c.in-Clear.is at (at)))

pub returns-in-Claim : goal.returns-in-Claim
returns-in-Claim c = λ g s stands at.
    rw c.in-Claim.is (c.claim_rule.ensures g s stands (rw c.in-Claim.is at (at)))

pub returns-in-Put : goal.returns-in-Put
returns-in-Put c = λ g s stands at.
    rw c.in-Put.is (c.put_rule.ensures g s stands (rw c.in-Put.is at (at)))
