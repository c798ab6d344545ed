use Rattle.chip_command.proofs.CommandLemmas.{delivered}
use Rattle.chip_engine.proofs.explain.explain_engine.Goals as goal

pub returns : goal.returns
returns g c = delivered _ _ c.deliver.ensures c.in_ok-answer.ensures
