use Rattle.std.proofs.Common.{inr}
use Rattle.chip_console.proofs.console.Console.resume.Goals as goal

pub returns : goal.returns
returns g c =
    let opened = c.in_ok-graph.ensures.opened in
    let said = rw (opened.0, opened.1, c.play_options.ensures) at c.resume_engine_with.ensures in inr said
