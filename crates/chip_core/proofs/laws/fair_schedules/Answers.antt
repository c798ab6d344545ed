use Rattle.chip_core.proofs.ScheduleLemmas.{fair_schedules_close, rounds_are_stretches, fair_rounds_close}
use Rattle.chip_core.proofs.laws.fair_schedules.Goals as goal

pub returns : goal.returns
returns c = record { stretches = fair_schedules_close; turns = rounds_are_stretches; rounds = fair_rounds_close }
