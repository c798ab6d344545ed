use Rattle.chip_log.proofs.SameLemmas.{judged_log_as}
use Rattle.chip_log.proofs.laws.same_judgment.Goals as goal

pub returns : goal.returns
returns c = λ with_past log other judged ends same is. judged_log_as log other same ends with_past judged is
