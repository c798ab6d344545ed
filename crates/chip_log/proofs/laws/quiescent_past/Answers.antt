use Rattle.chip_log.proofs.QuiescentLemmas.{quiescent_is_right}
use Rattle.chip_log.proofs.laws.quiescent_past.Goals as goal

pub returns : goal.returns
returns c = λ log p i past ends is quiescent. quiescent_is_right log ends p i past is quiescent
