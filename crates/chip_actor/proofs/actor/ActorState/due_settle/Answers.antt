use Rattle.chip_actor.proofs.Names.{◌∙◌, ℕ, ap, get_or-map, length-map, OutEnd, no_out, Actor, settle_due}
use Rattle.chip_actor.proofs.Names.{settles_over, passes_due}
use Rattle.chip_part.specs.declared.cursor.Cursor.TheVariants as At
use Rattle.chip_actor.proofs.actor.ActorState.due_settle.Goals as goal

pub returns-in-Some : goal.returns-in-Some
returns-in-Some c = λ g s stands at.
    let v : ℕ = c.args.self.now.vertex in
    let n : ℕ = c.args.place in
    let found = c.in-Some.ensures.lookup.3 in
    let edges = c.ends.ensures.edges ∙ ap (λ (a : Actor). a.outs.edges) c.self.view_is ∙ stands.knows.outs in
    let read = get_or-map (λ (o : OutEnd). o.link.edge) c.ends.result.now n no_out 0 found.0 in
    rw (c.edge.ensures, found.1 no_out, ← read, edges)
    (settle_due g v stands.knows.vertex s n (rw (← edges, length-map) found.0))

pub returns-in-None : goal.returns-in-None
returns-in-None c = λ g s stands at.
    let v : ℕ = c.args.self.now.vertex in
    let n : ℕ = c.args.place in
    let edges = c.ends.ensures.edges ∙ ap (λ (a : Actor). a.outs.edges) c.self.view_is ∙ stands.knows.outs in
    passes_due g v s (At.Settle n) At.Fire
    (settles_over g v stands.knows.vertex s n (rw (← edges, length-map) c.in-None.ensures.lookup.3))
    c.due_fire.result
    (c.due_fire.ensures g s stands tt)
