use Rattle.chip_diffusing.proofs.OrderLemmas.{detection_order}
use Rattle.chip_diffusing.proofs.laws.trees.Goals as goal

pub returns : goal.returns
returns c = detection_order
