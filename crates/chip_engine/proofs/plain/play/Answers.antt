use Rattle.std.proofs.Common.{ap}
use Rattle.chip_command.specs.Statuses.{number_of_status}
use Rattle.chip_engine.proofs.plain.play.Goals as goal

pub returns : goal.returns
returns g c = (
  c.in_ok-outcome.outcome,
  c.in_ok-outcome.ensures.played,
  c.in_ok-answer.ensures.text,
  ap number_of_status c.in_ok-answer.ensures.status,
)
