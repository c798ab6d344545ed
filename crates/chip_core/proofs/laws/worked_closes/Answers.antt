use Rattle.chip_core.proofs.WorkedLemmas.{none_halted, by_limit, by_seal}
use Rattle.chip_core.proofs.laws.worked_closes.Goals as goal

pub returns : goal.returns
returns c = record { none_halted = none_halted; stopped_by_limit = by_limit; stopped_by_seal = by_seal }
