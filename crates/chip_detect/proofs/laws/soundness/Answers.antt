use Rattle.chip_detect.proofs.SoundnessLemmas.{steps_keep_soundness}
use Rattle.chip_detect.proofs.laws.soundness.Goals as goal

pub returns : goal.returns
returns c = steps_keep_soundness
