use Rattle.chip_sequence.proofs.EndLemmas.{least_action}
use Rattle.chip_sequence.proofs.laws.least_action.Goals as goal

pub returns : goal.returns
returns c = least_action
