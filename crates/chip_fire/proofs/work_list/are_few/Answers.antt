use Rattle.std.proofs.Common.{◌+◌, true≢false, slice_index, sym, arith}
use Rattle.chip_fire.proofs.ListedLemmas.{count_legal, count_below}
use Rattle.chip_fire.proofs.work_list.are_few.Goals as goal

pub returns-then-found-few : goal.returns-then-found-few
returns-then-found-few c =
    let so_far = c.loop-vertex.invariant in
    let can = c.is_legal.ensures.0 c.if-is_legal.true in
    let more = count_legal c.args.graph.now (slice_index c.args.chips.now) c.loop-vertex.vertex can in
    let all = count_below c.args.graph.now (slice_index c.args.chips.now) (c.loop-vertex.vertex + 1)
    (let a = can.is_vertex in omega arith) in
    (λ is. absurd (true≢false (sym is)), λ few. absurd (let a = so_far.many in omega arith))
