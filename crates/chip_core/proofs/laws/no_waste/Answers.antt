use Rattle.chip_core.proofs.WastingLemmas.{no_waste_closes}
use Rattle.chip_core.proofs.laws.no_waste.Goals as goal

pub returns : goal.returns
returns c = no_waste_closes
