use Rattle.chip_log.proofs.OneLemmas.{one_first}
use Rattle.chip_log.proofs.laws.one_first.Goals as goal

pub returns : goal.returns
returns c = λ w log one two ends a b. one_first w log one two ends a b
