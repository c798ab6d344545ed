use Rattle.chip_core.proofs.ReachedLemmas.{reached_by_legal_logs}
use Rattle.chip_core.proofs.laws.reached_worlds.Goals as goal

pub returns : goal.returns
returns c = reached_by_legal_logs
