use Rattle.std.proofs.Common.{subst}
use Rattle.chip_graph.specs.ChipGame.{ChipGame}
use Rattle.chip_sequence.specs.Play.{IsPlayed}
use Rattle.examples.proofs.EndLemmas.{one_end}
use Rattle.examples.proofs.machines.end_of_threads.Goals as goal

pub returns-clause-same : goal.returns-clause-same
returns-clause-same g c =
    let done = c.in_ok-finished.ensures.finished in
    one_end c.args.game.now c.in_ok-finished.finished.outcome c.in_ok-plain.field-0
    (subst (λ (k : ChipGame). IsPlayed k c.in_ok-finished.finished.outcome) done.whole_is
    (done.played c.plan.ensures)) c.in_ok-plain.ensures.played
