use Rattle.chip_core.proofs.Names.{refl}
use Rattle.chip_core.proofs.WorkedLemmas.{by_the_end}
use Rattle.chip_core.proofs.laws.worked_feeding.Goals as goal

pub returns : goal.returns
returns c = record {
  once = (refl, refl, refl, refl);
  refused = refl;
  uncleared = refl;
  closed_by_the_end = by_the_end;
}
