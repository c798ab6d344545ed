use Rattle.chip_actor.proofs.Names.{ap, ℕ, Actor, limit_due, no_limit_due, passes_due}
use Rattle.chip_part.specs.declared.cursor.Cursor.TheVariants as At
use Rattle.chip_actor.proofs.actor.ActorState.due_limit.Goals as goal

pub returns-then-is_at_limit : goal.returns-then-is_at_limit
returns-then-is_at_limit c = λ g s stands at.
    let v : ℕ = c.args.self.now.vertex in
    rw (ap (λ (a : Actor). a.vertex) c.self.view_is)
    (limit_due g v stands.knows.vertex s at (rw (c.is_at_limit.ensures g s stands) at c.if-is_at_limit.true))

pub returns : goal.returns
returns c = λ g s stands at.
    let v : ℕ = c.args.self.now.vertex in
    passes_due g v s At.Limit (At.Ack 0)
    (no_limit_due g v stands.knows.vertex s (rw (c.is_at_limit.ensures g s stands) at c.if-is_at_limit.false))
    c.due_ack.result (c.due_ack.ensures g s stands tt)
