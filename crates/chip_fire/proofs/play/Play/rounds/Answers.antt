use Rattle.std.proofs.Common.{◌≡◌, ◌++◌, take, drop, length, ap, ◌∙◌, arith}
use Rattle.std.proofs.lemmas.Grind.{common_steps}
use Rattle.chip_graph.specs.Multigraph.{Multigraph}
use Rattle.chip_fire.proofs.VisitsLemmas.{few_rounds, visits_of_rounds}
use Rattle.chip_fire.proofs.play.Play.rounds.Goals as goal

pub returns-clause-few : goal.returns-clause-few
returns-clause-few g c =
    let graph = c.graph-graph.ensures.value in
    let vertices : c.max-vertices.result ≡ c.self.inside.game.now.graph.vertices =
    (let a = c.vertices.ensures.graph.some_vertex in let b = ap (λ (G : Multigraph). G.vertices) graph in omega arith) in
    let edges = ap length c.edges.ensures.value ∙ ap (λ (G : Multigraph). length G.edges) graph in
    let few = few_rounds c.self.inside.game.now c.self.inside.fired.items c.make_rounds-made.new.fired
    c.make_rounds-made.result c.saturating_add-most.result c.make_rounds-made.new.turns c.args.visits.now
    c.saturating_add-3.result c.max-vertices.result (length c.edges.result.now) c.min.result
    c.saturating_mul-at_vertices.result c.saturating_mul.result
    (rw c.deref_mut-2.ensures.value at c.make_rounds-made.ensures.rounds) vertices edges (omega arith) (omega arith)
    c.make_rounds-made.ensures.at_most (omega arith) (omega arith) (omega arith) (omega arith) in
    let fired = c.make_rounds-made.new.fired in
    let same : take c.self.inside.fired.len (fired ++ drop (length fired) c.self.inside.fired.items) ≡ fired =
    grind (arith, common_steps) in
    rw (← c.self.view_is, same) few

pub returns-clause-at_most : goal.returns-clause-at_most
returns-clause-at_most g c =
    let graph = c.graph-graph.ensures.value in
    let vertices : c.max-vertices.result ≡ c.self.inside.game.now.graph.vertices =
    (let a = c.vertices.ensures.graph.some_vertex in let b = ap (λ (G : Multigraph). G.vertices) graph in omega arith) in
    let edges = ap length c.edges.ensures.value ∙ ap (λ (G : Multigraph). length G.edges) graph in
    let few = visits_of_rounds c.self.inside.game.now c.self.inside.fired.items c.make_rounds-made.new.fired
    c.make_rounds-made.result c.args.most c.make_rounds-made.new.turns c.max-vertices.result (length c.edges.result.now)
    c.min.result c.saturating_mul-at_vertices.result c.saturating_mul.result
    (rw c.deref_mut-2.ensures.value at c.make_rounds-made.ensures.rounds) vertices edges (omega arith) (omega arith)
    (omega arith) (omega arith) in
    rw (← c.self.view_is) (omega arith)
