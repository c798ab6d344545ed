use Rattle.std.proofs.Common.{refl, append_assoc}
use Rattle.std.proofs.lemmas.Result.{IfOk-equal}
use Rattle.chip_engine.proofs.judge.push_verdict.Goals as goal

pub returns-in-OnItsWay : goal.returns-in-OnItsWay
returns-in-OnItsWay c = rw c.in-OnItsWay.is (IfOk-equal _ _ _ _ c.write-in-OnItsWay.ensures.bytes (simp append_assoc))

pub returns-in-Active : goal.returns-in-Active
returns-in-Active c = rw c.in-Active.is (IfOk-equal _ _ _ _ c.write-in-Active.ensures.bytes refl)
