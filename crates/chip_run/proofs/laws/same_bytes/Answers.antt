use Rattle.chip_run.proofs.RunLemmas as same
use Rattle.chip_run.proofs.laws.same_bytes.Goals as goal

pub returns-clause-alike : goal.returns-clause-alike
returns-clause-alike c = same.same_bytes

pub returns-clause-fed : goal.returns-clause-fed
returns-clause-fed c = same.same_bytes_fed
