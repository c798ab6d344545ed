use Rattle.std.proofs.Common.{inr}
use Rattle.chip_console.proofs.console.Console.identify.Goals as goal

pub returns : goal.returns
returns g c = let said = rw (c.in_ok-graph.ensures.opened, c.limits_of.ensures) at c.identity_engine.ensures in inr said
