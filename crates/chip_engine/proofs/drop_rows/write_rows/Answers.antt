use Rattle.std.proofs.Common.{◌≡◌, ℕ, [], string_bytes, length, refl, ap, arith, inl, inr}
use Rattle.std.proofs.KnownBytes.{Appends-nil}
use Rattle.std.proofs.lemmas.List.{take_all}
use Rattle.std.proofs.lemmas.List.Sums.{sum_by_more_le}
use Rattle.std.proofs.lemmas.Option.{MatchOption-at_none, MatchOption-at_some}
use Rattle.chip_engine.specs.DropRows.{EndsAt, HasDrops, IsOut, rows_text}
use Rattle.chip_engine.proofs.DropRowLemmas.{rows_none, next_game, next_rows, out_none, out_end}
use Rattle.chip_engine.proofs.drop_rows.write_rows.Goals.{else-drops-test, then-drops-test+in_default-write_if+in_default-avalanche}
use Rattle.chip_engine.proofs.drop_rows.write_rows.Goals as goal

pub returns-in_default : goal.returns-in_default
returns-in_default g c =
    let none = rows_none _ c.requires.pile c.requires.stable in
    let short : length (rows_text []) ≡ 30 = refl in
    (0, rows_text [], c.args.pile, none, inl none.game, (0, Appends-nil _, omega arith))

pub drops-init : goal.drops-init
drops-init g c =
    let short : length (rows_text []) ≡ 30 = refl in
    let (text, written) = c.in-Ok.ensures in
    let long = ap length text in (
      rows_text [],
      rows_none _ c.requires.pile c.requires.stable,
      out_none _ _ _ _ text written (omega arith),
      refl,
      omega arith,
    )

pub begin_drop-begun-requires-clause-few_chips : goal.begin_drop-begun-requires-clause-few_chips
begin_drop-begun-requires-clause-few_chips g c =
    let before = c.drops.invariant.1.game.total in
    let more = sum_by_more_le (λ (pair : ℕ × ℕ). pair.1) _ _ (0, 0) c.drops-test.true in omega arith

pub finish-next-requires : goal.finish-next-requires
finish-next-requires g c = (_, _, _, c.begin_drop-begun.ensures)

pub returns-in-Err : goal.returns-in-Err
returns-in-Err g c =
    let (text, so_far, out, all, few) = c.drops.invariant in
    let drops = next_game _ _ _ _ _ so_far c.drops-test.true _ c.begin_drop-begun.ensures.adds in
    (_, _, _, so_far, inr drops, c.in-Err.ensures.bytes _ _ out)

pub push-requires : goal.push-requires
push-requires g c =
    let (text, so_far, out, all, few) = c.drops.invariant in
    record { few = (let fewer = c.in_default-write_if.ensures.fewer in omega arith) }

pub returns-in-Err-push : goal.returns-in-Err-push
returns-in-Err-push g c =
    let (text, so_far, out, all, few) = c.drops.invariant in
    let told = c.finish-next.ensures.avalanche _ _ _ c.begin_drop-begun.ensures in
    let rows = next_rows _ _ _ _ _ so_far c.drops-test.true _ _ c.finish-next.ensures.pile told.0
    (MatchOption-at_some _ _ _ c.in-Some.is told.1) in
    (_, _, _, rows, inl rows.game, c.in-Err-push.ensures.bytes _ _ (c.in_default-write_if.ensures.bytes _ _ out))

pub drops-preserved : goal.drops-preserved
drops-preserved g c =
    let (text, so_far, out, all, few) = c.drops.invariant in
    let told = c.finish-next.ensures.avalanche _ _ _ c.begin_drop-begun.ensures in
    let rows = next_rows _ _ _ _ _ so_far c.drops-test.true _ _ c.finish-next.ensures.pile told.0
    (MatchOption-at_some _ _ _ c.in-Some.is told.1) in (
      _,
      rows,
      c.in_default-push.ensures.bytes _ _ (c.in_default-write_if.ensures.bytes _ _ out),
      all,
      c.in_default-push.ensures.few,
    )

pub returns : goal.returns
returns g c =
    let (text, so_far, out, all, few) = c.drops.invariant in
    let now : IsOut (g.W.Write.contents c.args.output.now) (g.W.Write.contents c.drops-test.output)
    (string_bytes c.drops-test.rows.text) c.drops-test.rows.written text = elim c.drops-test.branch [
      | else-drops-test w ↦ rw (w.output-is, w.rows-is) out
      | then-drops-test+in_default-write_if+in_default-avalanche w ↦
          rw (w.output-is, w.rows-is) (w.in_default-write_if.ensures.bytes _ _ out)
    ] in
    let drops : HasDrops c.args.pile c.args.drops.now c.drops.vertex-index c.drops-test.pile =
    elim c.drops-test.branch [
      | else-drops-test w ↦ rw w.pile-is (inl so_far.game)
      | then-drops-test+in_default-write_if+in_default-avalanche w ↦
          let told = w.finish-next.ensures.avalanche _ _ _ w.begin_drop-begun.ensures in
          rw w.pile-is (inr (next_game _ _ _ _ _ so_far w.drops-test.true _ told.0))
    ] in
    (_, _, _, so_far, drops, c.in-Err-write.ensures.bytes _ _ now)

pub returns-in-Ok-write : goal.returns-in-Ok-write
returns-in-Ok-write g c =
    let (text, so_far, out, all, few) = c.drops.invariant in
    let now : IsOut (g.W.Write.contents c.args.output.now) (g.W.Write.contents c.drops-test.output)
    (string_bytes c.drops-test.rows.text) c.drops-test.rows.written text = elim c.drops-test.branch [
      | else-drops-test w ↦ rw (w.output-is, w.rows-is) out
      | then-drops-test+in_default-write_if+in_default-avalanche w ↦
          rw (w.output-is, w.rows-is) (w.in_default-write_if.ensures.bytes _ _ out)
    ] in
    let end : EndsAt c.args.pile c.args.drops.now c.drops.vertex-index c.drops.pile c.drops-test.pile c.drops-test.all =
    elim c.drops-test.branch [
      | else-drops-test w ↦ rw (w.all-is, all) (take_all _ _ w.drops-test.false, w.pile-is)
      | then-drops-test+in_default-write_if+in_default-avalanche w ↦
          let told = w.finish-next.ensures.avalanche _ _ _ w.begin_drop-begun.ensures in
          let game = next_game _ _ _ _ _ so_far w.drops-test.true _ told.0 in
          let legal = rw (← told.0.same_graph) at (MatchOption-at_none _ _ w.in_default-avalanche.is told.1) in
          rw (w.pile-is, w.all-is) (w.drops-test.true, w.finish-next.ensures.pile, game, legal)
    ] in
    (_, _, _, so_far, end, out_end _ _ _ _ _ (c.in-Ok-write.ensures.bytes _ _ now) c.in-Ok-write.ensures.flushed)
