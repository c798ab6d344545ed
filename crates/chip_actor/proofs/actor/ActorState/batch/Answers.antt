use Rattle.chip_actor.proofs.Names.{refl, ap, arith, Actor, may_fire_pays}
use Rattle.chip_actor.proofs.actor.ActorState.batch.Goals as goal

-- if it may fire it is not the sink, and has edges out of it
pub nonzero_div-self-inside : goal.nonzero_div-self-inside
nonzero_div-self-inside c =
    let r = c.requires in
    let some = may_fire_pays r.0 c.args.self.now.vertex r.2.knows.vertex r.1 r.2.knows.setting.game r.3 in
    let is = ap (λ (a : Actor). a.degree) c.self.view_is in omega (arith, r.2.knows.degree)

pub returns : goal.returns
returns c = λ g s stands.
    rw (c.min.ensures, ← stands.chips, ← stands.knows.degree, ← stands.knows.limit, ← stands.fired)
    (rw (← c.self.view_is) refl)
