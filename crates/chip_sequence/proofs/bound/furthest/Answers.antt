use Rattle.std.proofs.Common.{◌<◌, arith}
use Rattle.chip_sequence.proofs.BoundLemmas.{greatest_none, greatest_more, greatest_all}
use Rattle.chip_sequence.proofs.bound.furthest.Goals as goal

pub loop-vertex-init : goal.loop-vertex-init
loop-vertex-init c = greatest_none c.args.graph.now c.vertices-vertex-end.ensures.graph.sink_is_vertex

pub loop-vertex-preserved : goal.loop-vertex-preserved
loop-vertex-preserved c =
    let inside : c.loop-vertex.vertex < c.args.graph.now.vertices =
    (let a = c.loop-vertex-test.true in let b = c.vertices-vertex-end.ensures.value in omega arith) in
    rw c.max-distance.ensures (greatest_more c.args.graph.now c.loop-vertex.vertex c.loop-vertex.distance
    c.distance.result inside c.loop-vertex.invariant c.distance.ensures)

pub returns : goal.returns
returns c = greatest_all c.args.graph.now c.loop-vertex.vertex c.loop-vertex.distance
    (let a = c.loop-vertex-test.false in let b = c.loop-vertex.auto.vertex-end in
    let d = c.vertices-vertex-end.ensures.value in omega arith) c.loop-vertex.invariant
