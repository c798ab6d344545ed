use Rattle.std.proofs.Common.{refl}
use Rattle.chip_run.proofs.laws.worked_rows.Goals as goal

pub returns : goal.returns
returns c = (refl, refl, refl, refl)
