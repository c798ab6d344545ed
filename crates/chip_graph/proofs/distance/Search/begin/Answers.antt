use Rattle.chip_graph.proofs.Names.{◌≡◌, replicate, arith, UNREACHED}
use Rattle.std.proofs.lemmas.Grind.{common_steps}
use Rattle.chip_graph.proofs.PlaceLemmas.{map-replicate}
use Rattle.chip_graph.proofs.distance.Search.begin.Goals as goal

pub returns : goal.returns
returns c =
    let filled : c.resize.new.self.items ≡ replicate c.args.vertices UNREACHED = grind (arith, common_steps) in
    rw (filled, c.new-reached.ensures.items, map-replicate) at c.in_ok-reach.ensures
