use Rattle.chip_log.proofs.OneLemmas.{one_judgment}
use Rattle.chip_log.proofs.laws.one_judgment.Goals as goal

pub returns : goal.returns
returns c = λ w log one two ends a b. one_judgment w log one two ends a b
