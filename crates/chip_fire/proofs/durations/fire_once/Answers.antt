use Rattle.std.proofs.Common.{◌≡◌, ◌-◌, ℕ, get_or, length-set, take, arith, refl, ◌∙◌}
use Rattle.std.proofs.lemmas.List.{take-set, take_more_set, take-set-le}
use Rattle.chip_graph.specs.Multigraph.{degree as out_degree_of}
use Rattle.chip_fire.proofs.WorkLemmas.{sent_room}
use Rattle.chip_fire.proofs.ListedLemmas.{again_room, push_room, link_push, link_same, sent_more}
use Rattle.chip_fire.proofs.ListedLemmas.{legal_again, legal_taken}
use Rattle.chip_fire.proofs.DurationLemmas.{sent_first, fired_once_is}
use Rattle.chip_fire.proofs.durations.fire_once.Goals as goal
use Rattle.chip_fire.proofs.durations.fire_once.Goals.{then-degree-left, else-degree-left}
use Rattle.chip_fire.proofs.durations.fire_once.Goals.{then-had-enough+then-enough-has, else-had-enough}
use Rattle.chip_fire.proofs.durations.fire_once.Goals.{else-had-enough-via-then-had-enough+else-enough-has}
use Rattle.chip_fire.proofs.durations.fire_once.Goals.{else-had-enough-via-else-had-enough}

pub bounds-list-listed : goal.bounds-list-listed
bounds-list-listed c = again_room _ _ _ _ _ c.requires.listed c.requires.fits c.requires.room

pub loop-link-init : goal.loop-link-init
loop-link-init c =
    let degree = c.out_degree-degree.ensures in
    let is : get_or c.args.chips.now c.args.vertex 0 - c.out_degree-degree.result
    ≡ get_or c.args.chips.now c.args.vertex 0 - out_degree_of c.args.graph.now c.args.vertex =
    rw degree refl in
    let left : ℕ = get_or c.args.chips.now c.args.vertex 0 - c.out_degree-degree.result in
    let can = c.requires.legal in
    let range = c.requires.in_range in
    let room = again_room _ _ _ _ _ c.requires.listed c.requires.fits c.requires.room in
    let long = length-set c.args.list.now c.args.listed c.args.vertex in
    elim c.if-degree-left.branch [
      | then-degree-left w ↦
          let are = legal_again _ _ (take c.args.listed c.args.list.now) _ left can.is_vertex range.chips_each c.requires.listed can
          (rw (← degree) w.if-degree-left.true) in
          rw (
            w.listed-is,
            w.list-is,
            c.links-links.ensures,
            take_more_set c.args.list.now c.args.listed c.args.vertex room,
            take-set,
          ) (record {
            sent = sent_first _ _ _ _ range _ _ can is;
            fits = omega arith;
            kept = (omega arith, refl);
            listed = are;
          })
      | else-degree-left w ↦
          let are = legal_taken _ _ (take c.args.listed c.args.list.now) _ left can.is_vertex range.chips_each c.requires.listed can
          (rw (← degree) w.if-degree-left.false) in
          rw (w.listed-is, w.list-is, c.links-links.ensures) (record {
            sent = sent_first _ _ _ _ range _ _ can is;
            fits = c.requires.fits;
            kept = (omega arith, refl);
            listed = are;
          })
    ]

pub overflow_add-has : goal.overflow_add-has
overflow_add-has c =
    let a = sent_room _ _ _ _ _ _ c.loop-link.invariant.sent c.loop-link-test.true in rw c.from.ensures (omega arith)

pub bounds-list-listed-then-enough-has : goal.bounds-list-listed-then-enough-has
bounds-list-listed-then-enough-has c =
    let so_far = c.loop-link.invariant in
    let enough = c.out_degree-enough.ensures in
    let are = link_push _ c.requires.in_range.graph_fits _ _ _ _ _ 1 so_far.sent c.loop-link-test.true so_far.listed c.from.result
    (let a = c.from.ensures in omega arith)
    (rw enough at c.if-had-enough.true) (rw enough at c.if-enough-has.true) in
    push_room _ _ _ _ _ are so_far.fits (let a = c.requires.room in omega arith)

pub loop-link-preserved : goal.loop-link-preserved
loop-link-preserved c =
    let so_far = c.loop-link.invariant in
    let enough = c.out_degree-enough.ensures in
    let good = c.requires.in_range.graph_fits in
    let inside = c.loop-link-test.true in
    elim c.if-had-enough.branch [
      | then-had-enough+then-enough-has w ↦
          let are = link_push _ good _ _ _ _ _ 1 so_far.sent inside so_far.listed c.from.result (let a = c.from.ensures in omega arith)
          (rw enough at w.if-had-enough.true) (rw enough at w.if-enough-has.true) in
          let room = push_room _ _ _ _ _ are so_far.fits (let a = c.requires.room in omega arith) in
          let long = length-set c.loop-link.list c.loop-link.listed
          (get_or c.links-links.result.now c.loop-link.link-index (record { head = 0; mult = 0 })).head in
          rw (
            w.listed-is,
            w.list-is,
            take_more_set c.loop-link.list c.loop-link.listed
                (get_or c.links-links.result.now c.loop-link.link-index (record { head = 0; mult = 0 })).head room,
          ) (record {
            sent = sent_more _ good _ _ _ _ _ 1 so_far.sent inside so_far.listed c.from.result (let a = c.from.ensures in omega arith);
            fits = omega arith;
            kept = (
              (let a = so_far.kept.0 in omega arith),
              take-set-le c.args.listed c.loop-link.list c.loop-link.listed
                  (get_or c.links-links.result.now c.loop-link.link-index (record { head = 0; mult = 0 })).head so_far.kept.0
                  ∙ so_far.kept.1,
            );
            listed = are;
          })
      | else-had-enough w ↦
          let are = link_same _ good _ _ _ _ _ 1 so_far.sent inside so_far.listed c.from.result (let a = c.from.ensures in omega arith)
          (λ now. elim w.else-had-enough.branch [
            | else-had-enough-via-then-had-enough+else-enough-has w' ↦
                (let a = rw enough at w'.if-enough-has.false in absurd (omega arith))
            | else-had-enough-via-else-had-enough w' ↦ (let a = rw enough at w'.if-had-enough.false in omega arith)
          ]) in
          rw (w.listed-is, w.list-is) (record {
            sent = sent_more _ good _ _ _ _ _ 1 so_far.sent inside so_far.listed c.from.result (let a = c.from.ensures in omega arith);
            fits = so_far.fits;
            kept = so_far.kept;
            listed = are;
          })
    ]

pub returns-clause-fired : goal.returns-clause-fired
returns-clause-fired c =
    let degree = c.out_degree-degree.ensures in
    let is : get_or c.args.chips.now c.args.vertex 0 - c.out_degree-degree.result
    ≡ get_or c.args.chips.now c.args.vertex 0 - out_degree_of c.args.graph.now c.args.vertex =
    rw degree refl in
    fired_once_is _ _ _ _ c.requires.in_range _ _ c.requires.legal is c.requires.below _ c.loop-link.link-index
    (rw c.links-links.ensures at c.loop-link-test.false) (rw c.links-links.ensures at c.loop-link.invariant.sent)
