use Rattle.chip_detect.proofs.SoundnessLemmas.{neutral_only_when_done}
use Rattle.chip_detect.proofs.laws.last_acknowledgement.Goals as goal

pub returns : goal.returns
returns c = neutral_only_when_done
