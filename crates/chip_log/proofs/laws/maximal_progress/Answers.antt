use Rattle.chip_log.proofs.OrderLemmas.{maximal_progress}
use Rattle.chip_log.proofs.laws.maximal_progress.Goals as goal

pub returns : goal.returns
returns c = λ log used other ends most is. maximal_progress log ends used most other is
