use Rattle.chip_net.proofs.laws.one_run.Goals as goal

pub returns : goal.returns
returns c = Rattle.chip_net.proofs.FinishingLemmas.one_run
