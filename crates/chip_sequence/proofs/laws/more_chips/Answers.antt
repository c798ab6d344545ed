use Rattle.chip_sequence.proofs.FiringLemmas.{more_chips}
use Rattle.chip_sequence.proofs.laws.more_chips.Goals as goal

pub returns : goal.returns
returns c = more_chips
