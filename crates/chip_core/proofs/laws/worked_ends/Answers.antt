use Rattle.chip_core.proofs.Names.{refl}
use Rattle.chip_core.proofs.WorkedLemmas.{pair_closes}
use Rattle.chip_core.proofs.laws.worked_ends.Goals as goal

pub returns : goal.returns
returns c = record { chain = (refl, refl, refl, refl); star = (refl, refl); pair = pair_closes }
