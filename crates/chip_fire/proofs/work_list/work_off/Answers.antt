use Rattle.std.proofs.Common.{◌≡◌, ◌+◌, ◌-◌, length, get_or, inl, inr, ⊎_elim, subst, sym, ap, ◌∙◌, arith}
use Rattle.std.proofs.lemmas.List.{take_rest, length-drop}
use Rattle.chip_graph.specs.Multigraph.{degree}
use Rattle.chip_sequence.proofs.BoundLemmas.{some_degree}
use Rattle.chip_fire.specs.WorkList.{AreTheLegal}
use Rattle.chip_fire.proofs.PlayLemmas.{rise_more, quotient_some}
use Rattle.chip_fire.proofs.WorkLemmas.{queue_put}
use Rattle.chip_fire.proofs.ListedLemmas.{next_legal, queue_next, queue_many, stuck_at, found_none}
use Rattle.chip_fire.proofs.work_list.work_off.Goals as goal

pub loop-made-init : goal.loop-made-init
loop-made-init c =
    let begun = c.requires.begun in
    rw (c.graph-graph.ensures.value, c.limit-limit.ensures.value) (record {
      in_range = begun.in_range;
      on_the_way = begun.on_the_way;
      room = (let a = c.requires.room in omega arith);
      legal = c.requires.legal;
      rises = λ v. omega arith;
      each_fires = omega arith;
      noted = λ some. (let (same, long) = c.requires.before some in let each = begun.in_range.fired_each in
          rw same (each, long, found_none _ _ _));
    })

pub returns-then-listed-eq0-clause-legal : goal.returns-then-listed-eq0-clause-legal
returns-then-listed-eq0-clause-legal c =
    let so_far = c.loop-made.invariant in
    rw c.graph-graph.ensures.value at (queue_many _ _ _ _ _ so_far.legal so_far.room)

pub note-found-requires-clause-is_vertex : goal.note-found-requires-clause-is_vertex
note-found-requires-clause-is_vertex c =
    let so_far = c.loop-made.invariant in
    let legal = subst (AreTheLegal c.graph-graph.result.now c.loop-made.chips) (sym c.make_room-first.ensures.same) so_far.legal in
    let can = next_legal _ _ c.make_room-first.new.queue c.make_room-first.result c.loop-made.listed legal (omega arith)
    c.make_room-first.ensures.room in
    let a = can.is_vertex in let b = so_far.in_range.fired_each in omega arith

pub turn-requires-clause-legal : goal.turn-requires-clause-legal
turn-requires-clause-legal c =
    let so_far = c.loop-made.invariant in
    let legal = subst (AreTheLegal c.graph-graph.result.now c.loop-made.chips) (sym c.make_room-first.ensures.same) so_far.legal in
    next_legal _ _ c.make_room-first.new.queue c.make_room-first.result c.loop-made.listed legal (omega arith)
    c.make_room-first.ensures.room

pub turn-requires-clause-listed : goal.turn-requires-clause-listed
turn-requires-clause-listed c =
    let so_far = c.loop-made.invariant in
    let legal = subst (AreTheLegal c.graph-graph.result.now c.loop-made.chips) (sym c.make_room-first.ensures.same) so_far.legal in
    let next = queue_next c.make_room-first.new.queue c.make_room-first.result c.loop-made.listed (omega arith)
    c.make_room-first.ensures.room in
    rw (take_rest c.make_room-first.new.queue (c.make_room-first.result + 1)) (rw next at legal)

pub returns-in-None-clause-begun : goal.returns-in-None-clause-begun
returns-in-None-clause-begun c = rw (← c.graph-graph.ensures.value, ← c.limit-limit.ensures.value) (record {
  in_range = c.turn.ensures.turned.0;
  on_the_way = c.turn.ensures.turned.1 _ c.loop-made.invariant.on_the_way;
})

pub returns-in-None-clause-legal : goal.returns-in-None-clause-legal
returns-in-None-clause-legal c =
    let so_far = c.loop-made.invariant in
    let (same, held, why) = c.in-None.ensures.counted in
    rw (same, ← c.graph-graph.ensures.value) (queue_many _ _ _ _ _ so_far.legal so_far.room)

pub returns-in-None-clause-over : goal.returns-in-None-clause-over
returns-in-None-clause-over c = λ fewer.
    let so_far = c.loop-made.invariant in
    let legal = subst (AreTheLegal c.graph-graph.result.now c.loop-made.chips) (sym c.make_room-first.ensures.same) so_far.legal in
    let can = next_legal _ _ c.make_room-first.new.queue c.make_room-first.result c.loop-made.listed legal (omega arith)
    c.make_room-first.ensures.room in
    let (same, held, why) = c.in-None.ensures.counted in
    let many = queue_many _ _ _ _ _ so_far.legal so_far.room in
    let long = ap length (take_rest c.make_room-first.new.queue (c.make_room-first.result + 1))
    ∙ length-drop (c.make_room-first.result + 1) c.make_room-first.new.queue in
    let each : length c.args.queue.now ≡ length c.make_room-first.new.queue = (let a = c.make_room-first.ensures.each in omega arith) in
    rw (same, held, each, ← c.graph-graph.ensures.value, ← c.limit-limit.ensures.value)
    (inr (stuck_at _ _ _ _ _ (length c.make_room-first.new.queue) c.make_room-first.result c.loop-made.listed can many
    (let a = c.make_room-first.ensures.low in let b = c.make_room-first.ensures.each in omega arith) (omega arith)
    c.make_room-first.ensures.room (⊎_elim (λ over. inl over) (λ short. inr (let a = long in omega arith)) why)))

pub returns-clause-legal : goal.returns-clause-legal
returns-clause-legal c =
    let so_far = c.loop-made.invariant in
    rw c.graph-graph.ensures.value at (queue_many _ _ _ _ _ so_far.legal so_far.room)

pub loop-made-preserved : goal.loop-made-preserved
loop-made-preserved c =
    let so_far = c.loop-made.invariant in
    let old_legal = subst (AreTheLegal c.graph-graph.result.now c.loop-made.chips) (sym c.make_room-first.ensures.same)
    so_far.legal in
    let can = next_legal _ _ c.make_room-first.new.queue c.make_room-first.result c.loop-made.listed old_legal (omega arith)
    c.make_room-first.ensures.room in
    let listed = c.in-Some.ensures.listed in
    let moved = c.make_room-first.ensures.room in
    let v = get_or c.make_room-first.new.queue c.make_room-first.result 0 in
    let some_edge = some_degree c.graph-graph.result.now so_far.in_range.graph_fits v can.is_vertex can.not_sink in
    let enough = can.enough_chips in
    let more = quotient_some (get_or c.loop-made.chips v 0) (degree c.graph-graph.result.now v) (omega arith) (omega arith) in
    let each = so_far.in_range.fired_each in
    let put = queue_put (c.make_room-first.result + 1) (length c.make_room-first.new.queue - (c.make_room-first.result + 1))
    c.in-Some.more c.make_room-first.new.queue c.turn.new.list (omega arith) listed.0 in record {
      in_range = c.turn.ensures.turned.0;
      on_the_way = c.turn.ensures.turned.1 _ so_far.on_the_way;
      room = put.1;
      legal = subst (AreTheLegal c.graph-graph.result.now c.turn.new.chips) (sym put.0) listed.1;
      rises = rise_more _ _ _ so_far.rises c.turn.ensures.rises;
      each_fires = (let a = so_far.each_fires in let b = c.in-Some.ensures.fires in omega arith);
      noted = λ some. (let (whole, long, found) = so_far.noted some in
          let noted = rw each at (c.note-found.ensures some _ more) in
          (whole, (let a = c.note-found.auto.support in omega arith), rw c.in-Some.ensures.counted noted));
    }
