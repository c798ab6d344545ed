use Rattle.chip_diffusing.proofs.KeptLemmas.{calls_may_be_made}
use Rattle.chip_diffusing.proofs.laws.calls.Goals as goal

pub returns : goal.returns
returns c = calls_may_be_made
