use Rattle.std.proofs.Common.{◌≡◌, string_bytes, add-one, arith}
use Rattle.chip_engine.proofs.check.show.Goals as goal

pub loop-vertex-preserved : goal.loop-vertex-preserved
loop-vertex-preserved c = rw (add-one c.loop-vertex.vertex) (
  string_bytes c.loop-vertex.text,
  c.distance.result,
  c.loop-vertex.invariant,
  c.distance.ensures,
  rw c.out_degree.ensures at c.in_ok-push_vertex.ensures,
)

pub returns-clause-shown : goal.returns-clause-shown
returns-clause-shown c =
    let last : c.loop-vertex.vertex ≡ c.args.graph.now.vertices =
    (let end = c.vertices-vertex-end.ensures.value in omega arith) in
    rw last at c.loop-vertex.invariant
