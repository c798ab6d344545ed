use Rattle.std.proofs.Common.{◌≡◌, ℕ, [], ◌∷◌, ◌++◌, length, set, slice_index, refl, arith, inl, inr}
use Rattle.chip_library.specs.Measures.{Measures, told_of, noted_on}
use Rattle.chip_library.proofs.KeptLemmas.{falls}
use Rattle.chip_library.proofs.MeasuresLemmas.{so_far_none, so_far_more, so_far_written, not_over, is_full, row_lengths}
use Rattle.chip_library.proofs.measures.make_each.Goals as goal
use Rattle.chip_library.proofs.measures.make_each.Goals.{then-is_over-via-then-is_over}
use Rattle.chip_library.proofs.measures.make_each.Goals.{then-is_over-via-else-is_over+then-lacks_room}

pub loop-drop-init : goal.loop-drop-init
loop-drop-init c = ([], so_far_none _ _ _ _ _ c.requires.played.0.kept c.requires.played.1)

pub replace_with-requires : goal.replace_with-requires
replace_with-requires c =
    let (notes, so_far) = c.loop-drop.invariant in (
      so_far.stable,
      falls c.args.kept.now.pile.game c.args.at.now c.args.amounts.now c.requires.measures.rows.amounts_each
          c.requires.can_fall (told_of notes) c.loop-drop.drop c.loop-drop-test.true so_far.on c.loop-drop.kept.pile.game
          so_far.left.leaves.game,
    )

pub returns-then-is_over : goal.returns-then-is_over
returns-then-is_over c =
    let (notes, so_far) = c.loop-drop.invariant in (
      notes,
      so_far_written _ _ _ _ _ _ _ notes _ _ _ c.requires.played so_far,
      so_far.many,
      inr (
        c.loop-drop-test.true,
        elim c.then-is_over.branch [
          | then-is_over-via-then-is_over w ↦ inr (rw w.if-is_over.true at so_far.over)
          | then-is_over-via-else-is_over+then-lacks_room w ↦
              inl (is_full _ _ _ _ _ _ _ notes _ _ _ so_far c.loop-drop.auto.ends c.loop-drop.auto.vertices
              (rw w.if-lacks_room.true at w.lacks_room.ensures))
        ],
      ),
    )

pub returns-in_default : goal.returns-in_default
returns-in_default c =
    let (notes, so_far) = c.loop-drop.invariant in
    let room = rw c.if-lacks_room.false at c.lacks_room.ensures in
    let stopped = rw c.in_default.is at c.replace_with.ensures in (
      c.loop-drop.drop,
      refl,
      (
        notes,
        c.loop-drop.kept,
        so_far_written _ _ _ _ _ _ _ notes _ _ _ c.requires.played so_far,
        so_far.many,
        c.loop-drop-test.true,
        not_over _ _ _ _ _ _ _ notes _ _ _ so_far c.loop-drop.auto.ends c.loop-drop.auto.vertices c.if-is_over.false room,
        stopped,
      ),
    )

pub write_row-end-requires-clause-few : goal.write_row-end-requires-clause-few
write_row-end-requires-clause-few c =
    let next = rw c.in-Some.is at c.replace_with.ensures in
    let lengths = row_lengths _ next.1.leaves.pile in omega (arith, lengths.0, lengths.2)

pub write_row-end-requires-clause-as_many : goal.write_row-end-requires-clause-as_many
write_row-end-requires-clause-as_many c =
    let next = rw c.in-Some.is at c.replace_with.ensures in
    let lengths = row_lengths _ next.1.leaves.pile in omega (arith, lengths.0, lengths.1)

pub loop-drop-preserved : goal.loop-drop-preserved
loop-drop-preserved c =
    let (notes, so_far) = c.loop-drop.invariant in
    let i : ℕ = c.loop-drop.drop in
    let room = rw c.if-lacks_room.false at c.lacks_room.ensures in
    let next = rw c.in-Some.is at c.replace_with.ensures in
    let timed = rw c.is_empty-timed.ensures at next in
    let alike : length c.write_row-end.new.vertices ≡ length c.args.vertices.now =
    omega (arith, c.write_row-end.auto.vertices, c.loop-drop.auto.vertices) in
    let now : Measures = record {
      rows = record {
        sizes = set c.loop-drop.sizes i c.in-Some.measured.avalanche.size;
        extents = set c.loop-drop.extents i c.in-Some.measured.avalanche.extent;
        losts = set c.loop-drop.losts i c.in-Some.measured.avalanche.lost;
      };
      durations = c.write_if_any.new.column;
      ends = c.write_row-end.new.ends;
      vertices = c.write_row-end.new.vertices;
      times = c.write_row-end.new.times;
    } in (
      notes ++ noted_on c.replace_with.new.dest.pile (slice_index c.args.at.now i) (slice_index c.args.amounts.now i)
          c.in-Some.measured ∷ [],
      so_far_more _ c.loop-drop.kept c.replace_with.new.dest _ _ _ _ _ now notes _ _ _ c.write_row-end.result i
          c.in-Some.measured c.requires.measures c.loop-drop-test.true c.loop-drop.auto.ends alike so_far
          (not_over _ _ _ _ _ _ _ notes _ _ _ so_far c.loop-drop.auto.ends c.loop-drop.auto.vertices c.if-is_over.false room) timed refl
          c.write_if_any.ensures (record {
            none = c.write_row-end.ensures.none;
            ends_are = c.write_row-end.ensures.ends;
            end_is = c.write_row-end.ensures.end;
            vertices_are = c.write_row-end.ensures.vertices;
            times_are = c.write_row-end.ensures.times;
          }) c.write_row-end.ensures.within
          (c.ends_run-is_over.ensures (slice_index c.args.at.now i) (slice_index c.args.amounts.now i)),
    )

pub returns : goal.returns
returns c =
    let (notes, so_far) = c.loop-drop.invariant in
    let at_end = c.loop-drop-test.false in
    let at_most = c.loop-drop.auto.drop-end in
    let many = so_far.many in
    (notes, so_far_written _ _ _ _ _ _ _ notes _ _ _ c.requires.played so_far, omega arith, inl refl)
