use Rattle.chip_engine.proofs.VerifyLemmas.{alike}
use Rattle.chip_engine.proofs.verify.stands_alike.Goals as goal

pub returns : goal.returns
returns c = alike _ _ _ _ c.is_in.ensures c.is_in-2.ensures
