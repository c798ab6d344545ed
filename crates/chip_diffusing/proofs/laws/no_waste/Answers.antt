use Rattle.chip_diffusing.proofs.WasteLemmas.{no_waste}
use Rattle.chip_diffusing.proofs.laws.no_waste.Goals as goal

pub returns : goal.returns
returns c = no_waste
