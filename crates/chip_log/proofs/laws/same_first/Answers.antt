use Rattle.chip_log.proofs.SameLemmas.{first_as}
use Rattle.chip_log.proofs.laws.same_first.Goals as goal

pub returns : goal.returns
returns c = λ with_past log other found same is. first_as with_past log other same found is
