use Rattle.std.proofs.Common.{refl}
use Rattle.std.specs.Fmt.{digits}
use Rattle.chip_engine.proofs.laws.worked_feeds.Goals as goal

pub returns : goal.returns
unfolding digits
returns c = (refl, refl, refl)
