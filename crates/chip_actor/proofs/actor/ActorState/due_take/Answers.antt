use Rattle.chip_actor.proofs.Names.{◌∙◌, ℕ, ap, get_or-map, length-map, HeadState, new_head, Actor, take_due}
use Rattle.chip_actor.proofs.Names.{takes_over, passes_due}
use Rattle.chip_part.specs.declared.cursor.Cursor.TheVariants as At
use Rattle.chip_actor.proofs.actor.ActorState.due_take.Goals as goal

pub returns-in-Some : goal.returns-in-Some
returns-in-Some c = λ g s stands at.
    let v : ℕ = c.args.self.now.vertex in
    let n : ℕ = c.args.place in
    let found = c.in-Some.ensures.lookup.3 in
    let edges = c.ends.ensures.edges ∙ ap (λ (a : Actor). a.ins.edges) c.self.view_is ∙ stands.knows.ins in
    let read = get_or-map (λ (h : HeadState). h.edge) c.ends.result.now n (new_head 0 1) 0 found.0 in
    rw (c.edge.ensures, found.1 (new_head 0 1), ← read, edges)
    (take_due g v stands.knows.vertex s n (rw (← edges, length-map) found.0))

pub returns-in-None : goal.returns-in-None
returns-in-None c = λ g s stands at.
    let v : ℕ = c.args.self.now.vertex in
    let n : ℕ = c.args.place in
    let edges = c.ends.ensures.edges ∙ ap (λ (a : Actor). a.ins.edges) c.self.view_is ∙ stands.knows.ins in
    passes_due g v s (At.Take n) (At.Settle 0)
    (takes_over g v stands.knows.vertex s n (rw (← edges, length-map) c.in-None.ensures.lookup.3))
    c.due_settle.result
    (c.due_settle.ensures g s stands tt)
