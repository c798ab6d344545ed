use Rattle.chip_graph.proofs.Names.{◌≡◌, ◌<◌, ◌∙◌, get_or_default, Multigraph}
use Rattle.chip_graph.specs.Index.{graph_inside}
use Rattle.chip_graph.proofs.IndexLemmas.{distance_is, distance_within}
use Rattle.chip_graph.proofs.graph.Graph.distance.Goals as goal

pub returns : goal.returns
returns c =
    let G : Multigraph = graph_inside c.rows.inside in
    let same : G ≡ c.args.self.now = c.rows.view_is ∙ c.deref-rows.ensures ∙ c.self.view_is in
    let known = c.rows.invariant.distances in
    let inside : c.args.vertex < G.vertices = rw (← same) at c.requires in
    let read = c.index.ensures ∙ get_or_default c.rows.inside.distances.items c.args.vertex c.index.result.now 0
    (distance_within G _ known c.args.vertex inside) in
    rw (c.from.ensures, read, ← same) (distance_is G _ known c.args.vertex inside)
