use Rattle.chip_log.proofs.VerdictLemmas.{one_verdict}
use Rattle.chip_log.proofs.laws.one_verdict.Goals as goal

pub returns : goal.returns
returns c = λ log p i v w ends is_v is_w. one_verdict log ends p i v w is_v is_w
