use Rattle.chip_sequence.proofs.counted.after_into.Goals as goal

pub returns-clause-cases : goal.returns-clause-cases
returns-clause-cases c =
    rw (c.graph.ensures.value, c.start.ensures.value) at (c.after_from.ensures.cases c.args.game.now.limit)
