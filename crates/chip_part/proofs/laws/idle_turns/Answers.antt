use Rattle.chip_part.proofs.RestingLemmas.{idle_turn_rests}
use Rattle.chip_part.proofs.laws.idle_turns.Goals as goal

pub returns : goal.returns
returns c = idle_turn_rests
