use Rattle.chip_fire.proofs.PlayLemmas.{two_sweeps}
use Rattle.chip_fire.proofs.rounds.round.Goals as goal

pub returns : goal.returns
returns c =
    let graph = c.graph-graph.ensures.value in
    let limit = c.limit-limit.ensures.value in
    two_sweeps c.args.game.now _ _ _ _ _ _ c.requires _ _ (rw (graph, limit) at c.sweep-even.ensures)
    (rw (graph, limit) at c.sweep-odd.ensures)
