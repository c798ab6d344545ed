use Rattle.std.proofs.Common.{◌+◌, length, slice_index, ap, arith}
use Rattle.chip_fire.proofs.ListedLemmas.{count_legal, count_below}
use Rattle.chip_fire.proofs.work_list.list_few.Goals as goal

pub returns-then-len-few : goal.returns-then-len-few
returns-then-len-few c =
    let so_far = c.loop-vertex.invariant in
    let can = c.is_legal.ensures.0 c.if-is_legal.true in
    let more = count_legal c.args.graph.now (slice_index c.args.chips.now) c.loop-vertex.vertex can in
    let all = count_below c.args.graph.now (slice_index c.args.chips.now) (c.loop-vertex.vertex + 1)
    (let a = can.is_vertex in omega arith) in
    let same = ap length so_far.listed in
    let long = c.loop-vertex.legal.ok.0 in omega arith
