use Rattle.examples.proofs.EndLemmas.{some_end}
use Rattle.examples.proofs.machines.end_of_seal.Goals as goal

pub returns : goal.returns
returns g c =
    some_end _ c.args.game.now c.plan.result c.in_ok-finished.finished c.in_ok-finished.ensures.finished
