use Rattle.chip_log.proofs.OrderLemmas.{one_stuck}
use Rattle.chip_log.proofs.laws.one_place.Goals as goal

pub returns : goal.returns
returns c = λ log p i q j ends one two. one_stuck log ends p i q j one two
