use Rattle.chip_actor.proofs.Names.{refl, ℕ, lt-ltb, all_edges, Actor}
use Rattle.chip_actor.proofs.StandingLemmas.{owed_is, may_ack_is, in_inside}
use Rattle.chip_actor.proofs.actor.ActorState.ack_rule.Goals as goal

pub returns : goal.returns
returns c = λ g s stands at.
    let a : Actor = c.args.self.now in let e : ℕ = c.args.slot.edge in
    rw (c.first_unmet.ensures, c.owed_at.ensures, c.may_ack.ensures, ← may_ack_is g s a stands e at)
    (rw (lt-ltb e (all_edges g) (in_inside g s a stands e at), ← owed_is g s a stands e at, ← c.self.view_is) refl)
