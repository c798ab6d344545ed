use Rattle.chip_library.proofs.KeptLemmas.{drops_follow}
use Rattle.chip_library.proofs.laws.drops_follow.Goals as goal

pub returns : goal.returns
returns c = drops_follow
