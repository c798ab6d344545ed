use Rattle.chip_log.proofs.FirstLemmas.{one_absent}
use Rattle.chip_log.proofs.laws.one_absent.Goals as goal

pub returns : goal.returns
returns c = λ log other n one two same a b. one_absent log other n one two same a b
