use Rattle.std.proofs.Common.{inr}
use Rattle.chip_console.proofs.console.Console.represent.Goals as goal

pub returns : goal.returns
returns g c =
    let opened = c.in_ok-graph.ensures.opened in
    let said = rw (opened.0, opened.1, c.limits_of.ensures) at c.recurrent_engine.ensures in inr said
