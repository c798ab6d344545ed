use Rattle.chip_core.proofs.PlayingLemmas.{unsealed_halts_none, fair_schedules_play, fair_rounds_play}
use Rattle.chip_core.proofs.laws.fair_schedules_play.Goals as goal

pub returns : goal.returns
returns c = record { unsealed = unsealed_halts_none; stretches = fair_schedules_play; rounds = fair_rounds_play }
