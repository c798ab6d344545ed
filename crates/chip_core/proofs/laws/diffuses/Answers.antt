use Rattle.chip_core.proofs.InstanceLemmas.{core_diffuses}
use Rattle.chip_core.proofs.laws.diffuses.Goals as goal

pub returns : goal.returns
returns c = core_diffuses
