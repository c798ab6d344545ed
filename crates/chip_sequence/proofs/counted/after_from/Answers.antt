use Rattle.chip_sequence.proofs.Names.{◌<◌, arith, rules, game_from}
use Rattle.chip_sequence.proofs.AfterLemmas.{then_few, is_after, game_from_is}
use Rattle.chip_sequence.proofs.counted.after_from.Goals as goal

pub overflow_cast-chips : goal.overflow_cast-chips
overflow_cast-chips c =
    let inside : c.loop-vertex.vertex < c.args.graph.now.vertices =
    (let a = c.loop-vertex-test.true in let b = c.loop-vertex.auto.into in let d = c.requires.chips_each in
    omega arith) in
    let few = then_few (game_from c.args.graph.now c.args.start.now 0)
    (game_from_is c.args.graph.now c.args.start.now c.first_negative.ensures.graph c.requires.start_each
    c.requires.few_chips) c.args.fired.now c.requires.counts_each c.in_default.ensures.least c.loop-vertex.vertex inside in
    let had = c.income_and_cost-had.ensures.had in
    let spent = c.income_and_cost-had.ensures.spent in
    record { fits = omega arith }

pub returns-clause-cases : goal.returns-clause-cases
returns-clause-cases c = λ limit.
    let after = is_after (game_from c.args.graph.now c.args.start.now 0)
    (game_from_is c.args.graph.now c.args.start.now c.first_negative.ensures.graph c.requires.start_each
    c.requires.few_chips) c.args.fired.now c.requires.counts_each c.in_default.ensures.least c.loop-vertex.into
    (let a = c.loop-vertex.auto.into in let b = c.requires.chips_each in omega arith)
    (λ v l. c.loop-vertex.invariant v (let a = c.loop-vertex-test.false in let d = c.requires.chips_each in
    omega arith)) in
    search rules
