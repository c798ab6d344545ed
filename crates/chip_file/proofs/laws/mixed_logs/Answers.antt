use Rattle.chip_file.proofs.MixLemmas.{mixed_logs}
use Rattle.chip_file.proofs.laws.mixed_logs.Goals as goal

pub returns : goal.returns
returns c = mixed_logs
