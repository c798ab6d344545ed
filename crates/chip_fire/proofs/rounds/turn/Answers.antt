use Rattle.std.proofs.Common.{◌≡◌, ℕ, ◌/◌, get_or, ap, ◌∙◌, arith}
use Rattle.chip_graph.specs.Multigraph.{degree}
use Rattle.chip_sequence.proofs.BoundLemmas.{some_degree}
use Rattle.chip_fire.proofs.PlayLemmas.{within_quotient, quotient_some, turn_stays, turn_less, turn_rises}
use Rattle.chip_fire.proofs.rounds.turn.Goals as goal

pub times_in-requires-clause-some : goal.times_in-requires-clause-some
times_in-requires-clause-some c =
    let some = some_degree c.args.graph.now c.requires.in_range.graph_fits c.args.vertex c.requires.is_vertex
    c.requires.not_sink in
    let is = c.out_degree-degree.ensures in
    omega arith

pub returns-clause-stays : goal.returns-clause-stays
returns-clause-stays c =
    let some = some_degree c.args.graph.now c.requires.in_range.graph_fits c.args.vertex c.requires.is_vertex
    c.requires.not_sink in
    let is = c.out_degree-degree.ensures in
    let quotient : c.times_in.result ≡ get_or c.args.chips.now c.args.vertex 0 / degree c.args.graph.now c.args.vertex =
    c.times_in.ensures.value ∙ ap (λ (d : ℕ). get_or c.args.chips.now c.args.vertex 0 / d) is in
    let least = c.min-k.ensures in
    turn_stays c.args.graph.now c.args.limit c.args.chips.now c.args.fired.now c.requires.in_range c.args.vertex
    c.min-k.result c.requires.is_vertex (omega arith) c.requires.not_sink
    (within_quotient (get_or c.args.chips.now c.args.vertex 0) (degree c.args.graph.now c.args.vertex) c.min-k.result
    some (omega arith)) c.fire_batch.new.position c.fire_batch.ensures.fired

pub returns-clause-fires : goal.returns-clause-fires
returns-clause-fires c =
    let some = some_degree c.args.graph.now c.requires.in_range.graph_fits c.args.vertex c.requires.is_vertex
    c.requires.not_sink in
    let is = c.out_degree-degree.ensures in
    let quotient = c.times_in.ensures.value in
    let enough = c.if-has-degree.false in
    let one = quotient_some (get_or c.args.chips.now c.args.vertex 0) c.out_degree-degree.result (omega arith)
    (omega arith) in
    let least = c.min-k.ensures in
    let left = c.if-left-eq0.false in
    turn_less c.args.graph.now c.args.limit c.args.chips.now c.args.fired.now c.requires.in_range c.args.vertex
    c.min-k.result c.requires.is_vertex (omega arith) (omega arith)

pub returns-clause-rises : goal.returns-clause-rises
returns-clause-rises c = turn_rises c.args.graph.now c.args.limit c.args.chips.now c.args.fired.now c.requires.in_range
    c.args.vertex c.min-k.result c.requires.is_vertex
