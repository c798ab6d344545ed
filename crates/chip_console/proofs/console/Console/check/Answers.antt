use Rattle.std.proofs.Common.{inr}
use Rattle.chip_console.proofs.console.Console.check.Goals as goal

pub returns : goal.returns
returns g c = let said = rw (c.in_ok-graph.ensures.opened, c.limits_of.ensures) at c.check_engine_with.ensures in inr said
