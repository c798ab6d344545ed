use Rattle.chip_part.proofs.TurnLemmas.{turns_bounded}
use Rattle.chip_part.proofs.PhaseLemmas.{under_way_bounded}
use Rattle.chip_part.proofs.laws.turns.Goals as goal

pub returns : goal.returns
returns c = record { bounded = turns_bounded; under_way = under_way_bounded }
