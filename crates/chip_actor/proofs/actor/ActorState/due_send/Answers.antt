use Rattle.chip_actor.proofs.Names.{ℕ, Some, None, ap, Actor, send_due, sends_over, passes_due}
use Rattle.chip_actor.proofs.TurnActorLemmas.{first_pending, none_pending}
use Rattle.chip_part.specs.declared.cursor.Cursor.TheVariants as At
use Rattle.chip_actor.proofs.actor.ActorState.due_send.Goals as goal

pub returns-in-Some : goal.returns-in-Some
returns-in-Some c = λ g s stands at.
    let v : ℕ = c.args.self.now.vertex in
    let n : ℕ = c.in-Some.place in
    let first = first_pending g s c.args.self.now stands _ c.self.view_is c.args.place (Some n) c.in-Some.ensures in
    let view = ap (λ (a : Actor). a.outs.edges) c.self.view_is in
    rw (c.edge-edge.ensures, c.at.ensures.edge, view, stands.knows.outs)
    (send_due g v stands.knows.vertex s c.args.place n at first.0 first.1 first.2 first.3)

pub returns-in-None : goal.returns-in-None
returns-in-None c = λ g s stands at.
    let v : ℕ = c.args.self.now.vertex in
    passes_due g v s (At.Send c.args.place) At.Limit
    (sends_over g v stands.knows.vertex s c.args.place
    (first_pending g s c.args.self.now stands _ c.self.view_is c.args.place None c.in-None.ensures))
    c.due_limit-in-None.result (c.due_limit-in-None.ensures g s stands at.held)

pub returns-then-self-eq0 : goal.returns-then-self-eq0
returns-then-self-eq0 c = λ g s stands at.
    let v : ℕ = c.args.self.now.vertex in
    let none = none_pending g s c.args.self.now stands (rw (← c.self.view_is) c.if-self-eq0.true) in
    passes_due g v s (At.Send c.args.place) At.Limit
    (sends_over g v stands.knows.vertex s c.args.place (λ k le within. none k within)) c.due_limit.result
    (c.due_limit.ensures g s stands at.held)
