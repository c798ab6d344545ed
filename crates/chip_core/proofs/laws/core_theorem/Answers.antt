use Rattle.chip_core.proofs.HeadlineLemmas as headline_lemmas
use Rattle.chip_core.proofs.laws.core_theorem.Goals as goal

pub returns : goal.returns
returns c = headline_lemmas.core_theorem
