use Rattle.chip_graph.proofs.Names.{◌≡◌, ◌<◌, length, get_or, ◌∙◌, arith, get_or_default, UNREACHED}
use Rattle.chip_graph.proofs.SpreadingLemmas.{reached_new}
use Rattle.chip_graph.proofs.distance.Search.reach.Goals as goal

pub returns-in_ok-push : goal.returns-in_ok-push
returns-in_ok-push c =
    let was = c.args.self.now in
    let counted = was.distances.ok.0 in
    let inside : c.args.vertex < length was.distances.items = omega (arith, c.requires.vertex) in
    let read = c.index.ensures ∙ get_or_default was.distances.items c.args.vertex c.index.result.now 0 inside in
    let new : get_or was.distances.items c.args.vertex 0 ≡ UNREACHED = omega (arith, c.if-index.true) in
    rw c.in_ok-push.ensures.items
    (reached_new c.args.vertex c.args.distance was.distances.items was.reached.items inside new c.requires.distance)
