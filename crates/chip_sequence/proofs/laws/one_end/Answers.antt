use Rattle.chip_sequence.proofs.EndLemmas.{one_end}
use Rattle.chip_sequence.proofs.laws.one_end.Goals as goal

pub returns : goal.returns
returns c = one_end
