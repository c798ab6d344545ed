use Rattle.std.proofs.Common.{refl}
use Rattle.std.specs.Fmt.{digits}
use Rattle.chip_engine.proofs.laws.worked_stage.Goals as goal

pub returns-clause-triangle : goal.returns-clause-triangle
unfolding digits
returns-clause-triangle c = λ r on. record {
  counted = rw (on.prior, on.fired) refl;
  position = rw on.chips refl;
  ended = refl;
  status = rw (on.over, on.sealed) refl;
  reported = rw (on.chips, on.fired, on.over, on.prior, on.sealed) refl;
}

pub returns-clause-refusals : goal.returns-clause-refusals
returns-clause-refusals c = (refl, refl, refl, refl, refl, refl, refl)
