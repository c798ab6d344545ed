use Rattle.chip_actor.proofs.Names.{ℕ, ◌+◌, sym, ap, Actor, claim_due, claim_over, passes_due}
use Rattle.chip_actor.proofs.TurnActorLemmas.{clear_at_place}
use Rattle.chip_part.specs.declared.cursor.Cursor.TheVariants as At
use Rattle.chip_actor.proofs.actor.ActorState.due_claim.Goals as goal

pub returns-then-is_some : goal.returns-then-is_some
returns-then-is_some c = λ g s stands at.
    let v : ℕ = c.args.self.now.vertex in
    let n : ℕ = c.args.place in
    let view = ap (λ (a : Actor). a.outs.edges) c.self.view_is in
    let clear = rw (← c.at-2.ensures.end, ← c.claim_next.ensures.words, ← c.is_some.ensures, c.if-is_some.true)
    at (clear_at_place g s c.args.self.now stands _ c.self.view_is n at.0) in
    rw (c.edge-edge.ensures, c.at.ensures.edge, view, stands.knows.outs)
    (claim_due g v stands.knows.vertex s n at (sym clear))

pub returns : goal.returns
returns c = λ g s stands at.
    let v : ℕ = c.args.self.now.vertex in
    let n : ℕ = c.args.place in
    let full = rw (← c.at-2.ensures.end, ← c.claim_next.ensures.words, ← c.is_some.ensures, c.if-is_some.false)
    at (clear_at_place g s c.args.self.now stands _ c.self.view_is n at.0) in
    passes_due g v s (At.Claim n) (At.Send (n + 1)) (claim_over g v stands.knows.vertex s n at (sym full))
    c.due_send.result (c.due_send.ensures g s stands at.1)
