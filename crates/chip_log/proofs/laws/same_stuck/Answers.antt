use Rattle.chip_log.proofs.SameLemmas.{stuck_as}
use Rattle.chip_log.proofs.laws.same_stuck.Goals as goal

pub returns : goal.returns
returns c = λ log other p i same is. stuck_as log other same p i is
