use Rattle.chip_core.proofs.OutcomeLemmas.{outcomes_tell}
use Rattle.chip_core.proofs.laws.outcomes.Goals as goal

pub returns : goal.returns
returns c = outcomes_tell
