use Rattle.chip_part.proofs.PhaseLemmas.{first_turn_is, second_turn_is}
use Rattle.chip_part.proofs.laws.worked_turns.Goals as goal

pub returns : goal.returns
returns c = record { first = first_turn_is; in_the_middle = second_turn_is }
