use Rattle.std.proofs.Common.{ℕ, ◌*◌, ◌<◌, get_or, length, take, ap, arith}
use Rattle.std.proofs.Math.Nat.{add-mul}
use Rattle.std.proofs.lemmas.List.{take-set, take_more_set}
use Rattle.chip_sequence.proofs.BoundLemmas.{some_degree}
use Rattle.chip_fire.proofs.PlayLemmas.{quotient_some, turn_less, turn_rises}
use Rattle.chip_graph.specs.Multigraph.{degree as degree_of}
use Rattle.chip_fire.proofs.WorkLemmas.{sent_none, sent_room, turned}
use Rattle.chip_fire.proofs.ListedLemmas.{legal_taken, link_push, link_same, sent_more}
use Rattle.chip_fire.proofs.work_list.turn.Goals as goal
use Rattle.chip_fire.proofs.work_list.turn.Goals.{then-had-degree+then-degree-has, else-had-degree}
use Rattle.chip_fire.proofs.work_list.turn.Goals.{else-had-degree-via-then-had-degree+else-degree-has}
use Rattle.chip_fire.proofs.work_list.turn.Goals.{else-had-degree-via-else-had-degree}

pub loop-link-init : goal.loop-link-init
loop-link-init c =
    let degree = c.out_degree-degree.ensures in
    let can = c.requires.legal in
    let range = c.requires.in_range in
    let enough = rw degree at c.times_in-k.ensures.enough in
    let no_more = rw degree at c.times_in-k.ensures.no_more in
    rw (degree, c.links-links.ensures) (record {
      sent = sent_none _ _ _ _ range _ _ can enough;
      room = omega arith;
      listed = legal_taken _ _ (take c.args.listed c.args.list.now) _ _ can.is_vertex range.chips_each c.requires.listed can
          (let a = add-mul c.times_in-k.result 1 (degree_of c.args.graph.now c.args.vertex) in omega arith);
    })

pub overflow_add-has : goal.overflow_add-has
overflow_add-has c =
    let a = sent_room _ _ _ _ _ _ c.loop-link.invariant.sent c.loop-link-test.true in rw c.from.ensures (omega arith)

pub loop-link-preserved : goal.loop-link-preserved
loop-link-preserved c =
    let so_far = c.loop-link.invariant in
    let sent = so_far.sent in
    let inside = c.loop-link-test.true in
    let good = c.requires.in_range.graph_fits in
    let room : c.loop-link.listed < length c.loop-link.list = omega arith in
    let degree = c.out_degree-degree-in-loop-link.ensures in
    let m : ℕ = c.times_in-k.result * c.from.result in
    let is = ap (λ (n : ℕ). c.times_in-k.result * n) c.from.ensures in
    let more = sent_more _ good _ _ _ _ _ c.times_in-k.result sent inside so_far.listed m is in
    elim c.if-had-degree.branch [
      | then-had-degree+then-degree-has w ↦ rw (w.listed-is, take_more_set) (record {
        sent = more;
        room = omega arith;
        listed = link_push _ good _ _ _ _ _ c.times_in-k.result sent inside so_far.listed m is
            (rw degree at w.if-had-degree.true) (rw degree at w.if-degree-has.true);
      })
      | else-had-degree w ↦ rw (w.listed-is, take-set) (record {
        sent = more;
        room = omega arith;
        listed = link_same _ good _ _ _ _ _ c.times_in-k.result sent inside so_far.listed m is
            (λ enough. elim w.else-had-degree.branch [
              | else-had-degree-via-then-had-degree+else-degree-has w' ↦
                  (let a = rw degree at w'.if-degree-has.false in absurd (omega arith))
              | else-had-degree-via-else-had-degree w' ↦ (let a = rw degree at w'.if-had-degree.false in omega arith)
            ]);
      })
    ]

pub returns-clause-turned : goal.returns-clause-turned
returns-clause-turned c =
    let degree = c.out_degree-degree.ensures in
    turned _ _ _ _ c.requires.in_range _ c.times_in-k.result c.requires.legal (rw degree at c.times_in-k.ensures.enough)
    (let a = c.if-k-limit.false in let b = c.requires.in_range.low_counts c.args.vertex in omega arith)
    _ c.loop-link.link-index (rw c.links-links.ensures at c.loop-link-test.false)
    (rw (degree, c.links-links.ensures) at c.loop-link.invariant.sent)

pub returns-clause-fires : goal.returns-clause-fires
returns-clause-fires c =
    let degree = c.out_degree-degree.ensures in
    let can = c.requires.legal in
    let some = some_degree c.args.graph.now c.requires.in_range.graph_fits c.args.vertex can.is_vertex can.not_sink in
    let value = c.times_in-k.ensures.value in
    let enough = can.enough_chips in
    let one = quotient_some (get_or c.args.chips.now c.args.vertex 0) c.out_degree-degree.result (omega arith) (omega arith) in
    let low = c.requires.in_range.low_counts c.args.vertex in
    let room = c.if-k-limit.false in
    (turn_less c.args.graph.now c.args.limit c.args.chips.now c.args.fired.now c.requires.in_range c.args.vertex
    c.times_in-k.result can.is_vertex (omega arith) (omega arith)).0

pub returns-clause-rises : goal.returns-clause-rises
returns-clause-rises c = turn_rises c.args.graph.now c.args.limit c.args.chips.now c.args.fired.now c.requires.in_range
    c.args.vertex c.times_in-k.result c.requires.legal.is_vertex
