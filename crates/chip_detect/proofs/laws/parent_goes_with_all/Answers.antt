use Rattle.chip_detect.proofs.SoundnessLemmas.{parent_goes_with_all}
use Rattle.chip_detect.proofs.laws.parent_goes_with_all.Goals as goal

pub returns : goal.returns
returns c = parent_goes_with_all
