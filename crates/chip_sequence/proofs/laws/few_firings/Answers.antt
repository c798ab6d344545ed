use Rattle.chip_sequence.proofs.FewLemmas.{few_firings, enough_by_distance}
use Rattle.chip_sequence.proofs.laws.few_firings.Goals as goal

pub returns-clause-bound : goal.returns-clause-bound
returns-clause-bound c G x good few v distance is vs ok = few_firings G good few x vs ok v distance is

pub returns-clause-enough : goal.returns-clause-enough
returns-clause-enough c = enough_by_distance
