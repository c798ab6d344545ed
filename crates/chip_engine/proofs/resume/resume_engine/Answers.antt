use Rattle.chip_engine.proofs.resume.resume_engine.Goals as goal

pub returns : goal.returns
returns g c = rw c.standard.ensures at c.resume_engine_with.ensures
