use Rattle.chip_sequence.proofs.FiringLemmas.{position_by_counts_law}
use Rattle.chip_sequence.proofs.laws.position_by_counts.Goals as goal

pub returns : goal.returns
returns c = position_by_counts_law
