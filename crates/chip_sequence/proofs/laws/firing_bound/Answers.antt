use Rattle.chip_sequence.proofs.BoundLemmas.{bound_law}
use Rattle.chip_sequence.proofs.laws.firing_bound.Goals as goal

pub returns : goal.returns
returns c G x good = bound_law G good x
