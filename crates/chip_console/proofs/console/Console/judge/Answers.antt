use Rattle.std.proofs.Common.{inr}
use Rattle.chip_console.proofs.console.Console.judge.Goals as goal

pub returns : goal.returns
returns g c = let said = rw (c.in_ok-log.ensures.opened, c.judge_options.ensures) at c.judge_engine_with-ended.ensures in inr said
