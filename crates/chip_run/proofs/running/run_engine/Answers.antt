use Rattle.chip_run.proofs.running.run_engine.Goals as goal

pub returns-clause-known : goal.returns-clause-known
returns-clause-known g c = rw c.standard.ensures at c.run_engine_with.ensures.known

pub returns-clause-report : goal.returns-clause-report
returns-clause-report g c = rw c.standard.ensures at c.run_engine_with.ensures.report
