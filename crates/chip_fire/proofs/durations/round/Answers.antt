use Rattle.std.proofs.Common.{◌≡◌, ◌+◌, ◌-◌, get_or, length, take, slice_index, ap, arith, ◌∙◌}
use Rattle.std.proofs.lemmas.List.{take_rest, take_all, length-take-le, length-drop}
use Rattle.chip_fire.proofs.WorkLemmas.{queue_put}
use Rattle.chip_fire.proofs.ListedLemmas.{next_legal, queue_next, queue_short, found_room, found_new, found_old}
use Rattle.chip_fire.proofs.DurationLemmas.{rest_after, position_next, round_is, fires_less}
use Rattle.chip_fire.proofs.durations.round.Goals as goal
use Rattle.chip_fire.proofs.durations.round.Goals.{then-fired-vertex-2, else-fired-vertex-2}

pub offset_bounds-fired-vertex : goal.offset_bounds-fired-vertex
offset_bounds-fired-vertex c =
    let so_far = c.loop-place.invariant in
    let can = next_legal _ _ _ _ _ so_far.legal (omega arith) so_far.fits in
    let a = can.is_vertex in let b = so_far.in_range.fired_each in omega arith

pub bounds-fired-vertex : goal.bounds-fired-vertex
bounds-fired-vertex c =
    let so_far = c.loop-place.invariant in
    let can = next_legal _ _ _ _ _ so_far.legal (omega arith) so_far.fits in
    let a = can.is_vertex in let b = so_far.in_range.fired_each in omega arith

pub returns-then-fired-vertex-clause-done : goal.returns-then-fired-vertex-clause-done
returns-then-fired-vertex-clause-done c =
    let so_far = c.loop-place.invariant in
    let can = next_legal _ _ _ _ _ so_far.legal (omega arith) so_far.fits in (_, can, c.if-fired-vertex.true)

pub offset_bounds-fired-vertex-in-loop-place : goal.offset_bounds-fired-vertex-in-loop-place
offset_bounds-fired-vertex-in-loop-place c =
    let so_far = c.loop-place.invariant in
    let can = next_legal _ _ _ _ _ so_far.legal (omega arith) so_far.fits in
    let a = can.is_vertex in let b = so_far.in_range.fired_each in omega arith

pub bounds-fired-vertex-in-loop-place : goal.bounds-fired-vertex-in-loop-place
bounds-fired-vertex-in-loop-place c =
    let so_far = c.loop-place.invariant in
    let can = next_legal _ _ _ _ _ so_far.legal (omega arith) so_far.fits in
    let a = can.is_vertex in let b = so_far.in_range.fired_each in omega arith

pub offset_bounds-before-vertex : goal.offset_bounds-before-vertex
offset_bounds-before-vertex c =
    let so_far = c.loop-place.invariant in
    let can = next_legal _ _ _ _ _ so_far.legal (omega arith) so_far.fits in
    let a = can.is_vertex in omega arith

pub bounds-before-vertex : goal.bounds-before-vertex
bounds-before-vertex c =
    let so_far = c.loop-place.invariant in
    let can = next_legal _ _ _ _ _ so_far.legal (omega arith) so_far.fits in
    let a = can.is_vertex in omega arith

pub bounds-support-found : goal.bounds-support-found
bounds-support-found c =
    let so_far = c.loop-place.invariant in
    let can = next_legal _ _ _ _ _ so_far.legal (omega arith) so_far.fits in
    let a = found_room _ _ _ _ _ _ so_far.found can.is_vertex so_far.in_range.fired_each 1 (omega arith) c.if-fired-vertex-2.true in omega arith

pub fire_once-waiting-requires-clause-legal : goal.fire_once-waiting-requires-clause-legal
fire_once-waiting-requires-clause-legal c =
    let so_far = c.loop-place.invariant in next_legal _ _ _ _ _ so_far.legal (omega arith) so_far.fits

pub fire_once-waiting-requires-clause-room : goal.fire_once-waiting-requires-clause-room
fire_once-waiting-requires-clause-room c =
    let few = queue_short _ _ _ _ c.requires.legal c.requires.listed in
    let past = length-drop (c.loop-place.place + 1) c.loop-place.queue in
    rw (take_rest c.loop-place.queue (c.loop-place.place + 1)) (omega arith)

pub fire_once-waiting-requires-clause-listed : goal.fire_once-waiting-requires-clause-listed
fire_once-waiting-requires-clause-listed c =
    let so_far = c.loop-place.invariant in
    let turn = queue_next c.loop-place.queue c.loop-place.place c.loop-place.waiting (omega arith) so_far.fits in
    rw (take_rest c.loop-place.queue (c.loop-place.place + 1)) (rw turn at so_far.legal)

pub loop-place-preserved : goal.loop-place-preserved
loop-place-preserved c =
    let so_far = c.loop-place.invariant in
    let can = next_legal _ _ _ _ _ so_far.legal (omega arith) so_far.fits in
    let long = length-take-le c.args.listed c.args.queue.now c.requires.listed in
    let after = c.fire_once-waiting.ensures in
    let fires = after.fired in
    let past = length-drop (c.loop-place.place + 1) c.loop-place.queue in
    let rest = take_rest c.loop-place.queue (c.loop-place.place + 1) in
    let auto = c.fire_once-waiting.auto.list in
    let inner = ap length rest in
    let each : length c.fire_once-waiting.new.list ≡ length c.loop-place.queue - (c.loop-place.place + 1) =
    omega arith in
    let put = queue_put (c.loop-place.place + 1) (length c.loop-place.queue - (c.loop-place.place + 1)) c.fire_once-waiting.result
    c.loop-place.queue c.fire_once-waiting.new.list (omega arith) after.fits in
    let kept = rw rest at after.kept.1 in
    let low = so_far.in_range.low_counts (get_or c.loop-place.queue c.loop-place.place 0) in
    let less = fires_less _ _ _ _ so_far.in_range _ can.is_vertex (let a = c.if-fired-vertex.false in omega arith) in
    record {
      in_range = fires.in_range;
      stays = λ x is. fires.stays x (so_far.stays x is);
      found = elim c.if-fired-vertex-2.branch [
        | then-fired-vertex-2 w ↦ rw (fires.counted, w.support-is, w.found-is)
            (found_new _ _ _ _ _ _ so_far.found can.is_vertex so_far.in_range.fired_each 1 (omega arith) (omega arith) w.if-fired-vertex-2.true)
        | else-fired-vertex-2 w ↦ rw (fires.counted, w.support-is, w.found-is)
            (found_old _ _ _ _ _ _ so_far.found can.is_vertex so_far.in_range.fired_each 1 (omega arith) w.if-fired-vertex-2.false)
      ];
      fits = put.1;
      enough = (let a = after.kept.0 in omega arith);
      legal = rw put.0 after.listed;
      rest = rest_after c.loop-place.queue (take c.args.listed c.args.queue.now) c.args.listed c.loop-place.place c.loop-place.waiting
          c.loop-place-test.true so_far.fits so_far.enough long so_far.rest c.fire_once-waiting.new.list each kept;
      position = position_next c.loop-place.queue (take c.args.listed c.args.queue.now) c.args.listed c.loop-place.place
          c.loop-place.waiting c.loop-place-test.true so_far.fits so_far.enough long so_far.rest
          c.args.graph.now (slice_index c.args.chips.now) (slice_index c.loop-place.chips)
          (slice_index c.fire_once-waiting.new.chips) so_far.position fires.position;
      each_fires = rw fires.counted (omega arith);
    }

pub returns-clause-done : goal.returns-clause-done
returns-clause-done c =
    let so_far = c.loop-place.invariant in
    let at_end : c.loop-place.place ≡ c.args.listed = omega arith in
    let long = length-take-le c.args.listed c.args.queue.now c.requires.listed in
    let all = take_all c.loop-place.place (take c.args.listed c.args.queue.now) (omega arith) in
    let fits = so_far.fits in (
      record {
        position = λ u. rw all at (so_far.position u) ∙ round_is _ _ _ c.requires.legal u;
        each_fires = rw at_end at so_far.each_fires;
      },
      so_far.found,
      omega arith,
      rw c.move_to_front.ensures (rw at_end at so_far.legal),
    )
