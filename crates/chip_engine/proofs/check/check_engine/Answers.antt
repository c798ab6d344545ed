use Rattle.chip_engine.proofs.check.check_engine.Goals as goal

pub returns : goal.returns
returns g c = rw c.standard.ensures at c.check_engine_with.ensures
