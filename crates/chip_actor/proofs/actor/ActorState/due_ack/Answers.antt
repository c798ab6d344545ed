use Rattle.chip_actor.proofs.Names.{ℕ, Some, None, ap, Actor, ack_due, acks_over, passes_due}
use Rattle.chip_actor.proofs.TurnActorLemmas.{first_owed}
use Rattle.chip_part.specs.declared.cursor.Cursor.TheVariants as At
use Rattle.chip_actor.proofs.actor.ActorState.due_ack.Goals as goal

pub returns-in-Some : goal.returns-in-Some
returns-in-Some c = λ g s stands at.
    let v : ℕ = c.args.self.now.vertex in
    let n : ℕ = c.in-Some.place in
    let first = first_owed g s c.args.self.now stands c.args.place (Some n) c.in-Some.ensures in
    let view = ap (λ (a : Actor). a.ins.edges) c.self.view_is in
    rw (c.edge-edge.ensures, c.at.ensures.edge, view, stands.knows.ins)
    (ack_due g v stands.knows.vertex s c.args.place n first.0 first.1 first.2 first.3)

pub returns-in-None : goal.returns-in-None
returns-in-None c = λ g s stands at.
    let v : ℕ = c.args.self.now.vertex in
    passes_due g v s (At.Ack c.args.place) At.Parent
    (acks_over g v stands.knows.vertex s c.args.place
    (first_owed g s c.args.self.now stands c.args.place None c.in-None.ensures)) c.due_parent.result
    (c.due_parent.ensures g s stands tt)
