use Rattle.chip_net.proofs.laws.seals_tell_all.Goals as goal

pub returns : goal.returns
returns c = Rattle.chip_net.proofs.StoppingLemmas.seals_tell_all
