use Rattle.chip_core.proofs.SoonLemmas.{depth_closes, depth_closes_later, depth_is_counted, few_are_left}
use Rattle.chip_core.proofs.laws.soon_after_the_end.Goals as goal

pub returns : goal.returns
returns c = record { depth = depth_closes; later = depth_closes_later; counted = depth_is_counted; few = few_are_left }
