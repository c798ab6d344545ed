use Rattle.chip_diffusing.proofs.OrderLemmas.{closed_quiescent, settled_up}
use Rattle.chip_diffusing.proofs.QuiescentLemmas.{closed_for_good}
use Rattle.chip_diffusing.proofs.laws.closed_roots.Goals as goal

pub returns-clause-quiescent : goal.returns-clause-quiescent
returns-clause-quiescent c = closed_quiescent

pub returns-clause-settled : goal.returns-clause-settled
returns-clause-settled c = settled_up

pub returns-clause-for_good : goal.returns-clause-for_good
returns-clause-for_good c = closed_for_good
