use Rattle.chip_diffusing.proofs.DepthLemmas.{depth_closes, depth_is_counted}
use Rattle.chip_diffusing.proofs.laws.soon_after_the_end.Goals as goal

pub returns-clause-depth : goal.returns-clause-depth
returns-clause-depth c = depth_closes

pub returns-clause-counted : goal.returns-clause-counted
returns-clause-counted c = depth_is_counted
