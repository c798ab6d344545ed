use Rattle.chip_actor.proofs.actor.ActorState.due.Goals as goal

-- each arm is at its own cursor
pub returns-in-Take : goal.returns-in-Take
returns-in-Take c = rw c.in-Take.is c.due_take.ensures

pub returns-in-Settle : goal.returns-in-Settle
returns-in-Settle c = rw c.in-Settle.is c.due_settle.ensures

pub returns-in-Fire : goal.returns-in-Fire
returns-in-Fire c = rw c.in-Fire.is c.due_fire.ensures

pub returns-in-Put : goal.returns-in-Put
returns-in-Put c = rw c.in-Put.is c.due_put.ensures

pub returns-in-Refusal : goal.returns-in-Refusal
returns-in-Refusal c = rw c.in-Refusal.is c.due_refusal.ensures

pub returns-in-Send : goal.returns-in-Send
returns-in-Send c = rw c.in-Send.is c.due_send.ensures

pub returns-in-Claim : goal.returns-in-Claim
returns-in-Claim c = rw c.in-Claim.is c.due_claim.ensures

pub returns-in-Store : goal.returns-in-Store
returns-in-Store c = rw c.in-Store.is c.due_store.ensures

pub returns-in-Limit : goal.returns-in-Limit
returns-in-Limit c = rw c.in-Limit.is c.due_limit.ensures

pub returns-in-Ack : goal.returns-in-Ack
returns-in-Ack c = rw c.in-Ack.is c.due_ack.ensures

pub returns-in-Parent : goal.returns-in-Parent
returns-in-Parent c = rw c.in-Parent.is c.due_parent.ensures
