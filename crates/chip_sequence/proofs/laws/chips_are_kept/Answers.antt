use Rattle.chip_sequence.proofs.BoundLemmas.{chips_are_kept}
use Rattle.chip_sequence.proofs.laws.chips_are_kept.Goals as goal

pub returns : goal.returns
returns c G x good = chips_are_kept G good x
