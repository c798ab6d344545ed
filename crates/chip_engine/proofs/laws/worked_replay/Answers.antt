use Rattle.std.proofs.Common.{refl}
use Rattle.std.specs.Fmt.{digits}
use Rattle.chip_engine.proofs.laws.worked_replay.Goals as goal

pub returns : goal.returns
unfolding digits
returns c = record { can_fire = refl; at_limit = refl; status = refl; unasked = refl }
