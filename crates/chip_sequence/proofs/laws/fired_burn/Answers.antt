use Rattle.chip_sequence.proofs.BurningLemmas.{fired_burn}
use Rattle.chip_sequence.proofs.laws.fired_burn.Goals as goal

pub returns : goal.returns
returns c = fired_burn
