use Rattle.chip_sequence.proofs.EndLemmas.{continued}
use Rattle.chip_sequence.proofs.laws.continuation.Goals as goal

pub returns : goal.returns
returns c = continued
