use Rattle.chip_engine.proofs.simulate.end_of.Goals as goal

pub returns-in-Closed : goal.returns-in-Closed
returns-in-Closed c = rw c.in-Closed.is c.end_of_closed.ensures
