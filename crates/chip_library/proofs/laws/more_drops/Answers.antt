use Rattle.chip_library.proofs.KeptLemmas.{more_drops}
use Rattle.chip_library.proofs.laws.more_drops.Goals as goal

pub returns : goal.returns
returns c = more_drops
