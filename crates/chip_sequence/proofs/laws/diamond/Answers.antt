use Rattle.chip_sequence.proofs.FiringLemmas.{diamond}
use Rattle.chip_sequence.proofs.laws.diamond.Goals as goal

pub returns : goal.returns
returns c = diamond
