use Rattle.chip_actor.proofs.Names.{refl, ◌≡◌, Bool, not, lt-ltb, Option, is_some, is_none, arith, nat_tests, Cause}
use Rattle.chip_actor.proofs.actor.ActorState.halt_rule.Goals as goal

none_of : (h : Option Cause) (b : Bool) → is_some h ≡ not b → b ≡ is_none h
none_of h b q = grind (arith, nat_tests)

pub returns : goal.returns
returns c = λ g s stands.
    rw (c.first_unmet.ensures, none_of _ _ c.is_none.ensures, c.is_some.ensures, c.cause.ensures g s stands)
    (rw (lt-ltb _ _ stands.knows.vertex, ← stands.knows.is_sink, ← stands.unput, ← stands.halt, ← c.self.view_is) refl)
