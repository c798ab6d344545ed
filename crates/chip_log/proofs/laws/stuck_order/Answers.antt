use Rattle.chip_log.proofs.OrderLemmas.{no_order}
use Rattle.chip_log.proofs.laws.stuck_order.Goals as goal

pub returns : goal.returns
returns c = λ log xs p i ends stuck is. no_order log ends p i xs stuck is
