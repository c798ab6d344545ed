use Rattle.chip_log.proofs.CutLemmas.{cut_keeps_verdicts}
use Rattle.chip_log.proofs.cut.cut_keeps_verdicts.Goals as goal

pub returns : goal.returns
returns c = cut_keeps_verdicts
