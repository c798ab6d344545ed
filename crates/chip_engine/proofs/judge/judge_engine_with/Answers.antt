use Rattle.chip_command.proofs.CommandLemmas.{refused}
use Rattle.chip_engine.proofs.judge.judge_engine_with.Goals as goal

pub returns-in_err-answer : goal.returns-in_err-answer
returns-in_err-answer g c = refused _ c.from_residual.ensures.1 c.in_err-answer.ensures
