use Rattle.chip_sequence.proofs.FiringLemmas.{batch}
use Rattle.chip_sequence.proofs.laws.batch.Goals as goal

pub returns : goal.returns
returns c G x v k = batch G v k x
