use Rattle.chip_sequence.proofs.BurningLemmas.{burnt_counts}
use Rattle.chip_sequence.proofs.laws.burnt_counts.Goals as goal

pub returns : goal.returns
returns c G x limit good = burnt_counts G good x limit
