use Rattle.chip_log.proofs.PastLemmas.{causal_past}
use Rattle.chip_log.proofs.laws.causal_past.Goals as goal

pub returns : goal.returns
returns c = λ log p i before ends is. causal_past log ends p i before is
