use Rattle.chip_actor.proofs.Names.{ℕ, sym, ap, Actor, store_due, stop_due}
use Rattle.chip_actor.proofs.TurnActorLemmas.{held_at_place}
use Rattle.chip_actor.proofs.actor.ActorState.due_store.Goals as goal

pub returns-then-is_some : goal.returns-then-is_some
returns-then-is_some c = λ g s stands at.
    let v : ℕ = c.args.self.now.vertex in
    let n : ℕ = c.args.place in
    let view = ap (λ (a : Actor). a.outs.edges) c.self.view_is in
    let held = rw (← c.at-2.ensures.end, ← c.held.ensures.value, ← c.is_some.ensures, c.if-is_some.true)
    at (held_at_place g s c.args.self.now stands _ c.self.view_is n at.0) in
    rw (c.edge-edge.ensures, c.at.ensures.edge, view, stands.knows.outs)
    (store_due g v stands.knows.vertex s n at (sym held))

pub returns : goal.returns
returns c = λ g s stands at.
    let v : ℕ = c.args.self.now.vertex in
    let n : ℕ = c.args.place in
    let none = rw (← c.at-2.ensures.end, ← c.held.ensures.value, ← c.is_some.ensures, c.if-is_some.false)
    at (held_at_place g s c.args.self.now stands _ c.self.view_is n at.0) in
    rw (ap (λ (a : Actor). a.vertex) c.self.view_is)
    (stop_due g v stands.knows.vertex s stands.knows.setting.game n at (sym none))
