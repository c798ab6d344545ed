use Rattle.std.proofs.Common.{rules, inl, inr, refl}
use Rattle.chip_engine.proofs.verify.verify.Goals as goal

pub returns-in-Some : goal.returns-in-Some
returns-in-Some g c = inl (inr (
  c.in_ok-outcome.outcome,
  c.in_ok-outcome.ensures.played,
  search rules,
  c.in-Some.vertex,
  refl,
  c.in-Some.ensures,
))

pub returns : goal.returns
returns g c = (
  c.in_ok-outcome.outcome,
  c.in_ok-outcome.ensures.played,
  search rules,
  (λ v below. c.in-None.ensures v (search rules)),
  search rules,
  search rules,
)
