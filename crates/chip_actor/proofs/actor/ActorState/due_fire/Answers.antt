use Rattle.chip_actor.proofs.Names.{ap, ℕ, arith, Actor, fire_due, no_fire_due, passes_due}
use Rattle.chip_part.specs.declared.cursor.Cursor.TheVariants as At
use Rattle.chip_actor.proofs.actor.ActorState.due_fire.Goals as goal

pub batch-k-requires : goal.batch-k-requires
batch-k-requires c = let r = c.requires in (r.0, r.1, r.2, rw (c.may_fire.ensures r.0 r.1 r.2) at c.if-may_fire.true)

pub returns-then-may_fire : goal.returns-then-may_fire
returns-then-may_fire c = λ g s stands at.
    let v : ℕ = c.args.self.now.vertex in
    rw (ap (λ (a : Actor). a.vertex) c.self.view_is, c.batch-k.ensures g s stands)
    (fire_due g v stands.knows.vertex s stands.knows.setting.game (rw (c.may_fire.ensures g s stands)
    at c.if-may_fire.true))

pub returns : goal.returns
returns c = λ g s stands at.
    let v : ℕ = c.args.self.now.vertex in
    passes_due g v s At.Fire (At.Put 0)
    (no_fire_due g v stands.knows.vertex s (rw (c.may_fire.ensures g s stands) at c.if-may_fire.false))
    c.due_put.result (c.due_put.ensures g s stands (λ k l. absurd (omega arith)))
