use Rattle.chip_library.proofs.KeptLemmas.{piles_are_outcomes}
use Rattle.chip_library.proofs.laws.piles_are_outcomes.Goals as goal

pub returns : goal.returns
returns c = piles_are_outcomes
