use Rattle.chip_file.proofs.JsonNames.{length, refl, ap, arith, true, after_end_array, fresh, after_comma, item, no_items}
use Rattle.chip_file.proofs.JsonNames.{rows_depth}
use Rattle.chip_file.proofs.Turns.{none_before, one_more, all_read}
use Rattle.chip_file.proofs.Rowed.{rows_more, rows_over, no_rows}
use Rattle.chip_file.proofs.Plainly.{row_of, row_is_edge, row_read, after_comma_read, end_read}
use Rattle.chip_file.proofs.graph_text.plain.rows.Goals as goal

pub rows-init : goal.rows-init
rows-init c = (
  _,
  fresh,
  refl,
  none_before rows_depth _,
  omega arith,
  c.requires,
  no_rows c.new-edges.result.items c.new-edges.ensures.items,
)

pub rows-preserved : goal.rows-preserved
rows-preserved c =
    let l = c.rows in
    let text = c.args.text.now in
    let edge = c.in-Some.found.value in
    let row = c.in-Some.ensures in
    let comma = c.in-Some-skip.ensures in
    let read = row_read text l.at edge c.in-Some.found.next l.invariant.1 l.invariant.2 row in
    let on = after_comma_read _ _ comma.read in (
      _,
      after_comma,
      refl,
      rw on at (one_more l.invariant.3 read.going refl read.is read.shorter),
      omega (arith, l.invariant.4, row.on, comma.on),
      comma.on.1,
      rows_more true l.invariant.0 l.edges.items _ _ edge (row_is_edge edge) c.in_ok-keep.ensures.kept l.invariant.6,
    )

pub returns-in_default-skip-clause-rows : goal.returns-in_default-skip-clause-rows
returns-in_default-skip-clause-rows c =
    let l = c.rows in
    let text = c.args.text.now in
    let edge = c.in-Some.found.value in
    let d = row_of edge in
    let row = c.in-Some.ensures in
    let close = c.in-Some-skip-2.ensures in
    let read = row_read text l.at edge c.in-Some.found.next l.invariant.1 l.invariant.2 row in
    let on = end_read _ _ close.read in
    let more = one_more l.invariant.3 read.going refl read.is read.shorter in
    let kept = rows_more true l.invariant.0 l.edges.items _ d edge (row_is_edge edge) c.in_ok-keep.ensures.kept
    l.invariant.6 in record {
      rows = l.invariant.0 (item d no_items);
      kept = rows_over (λ ds. l.invariant.0 (item d ds)) c.keep.new.edges kept;
      read = all_read more (ap after_end_array on);
      shorter = omega (arith, more.shorter, ap length on);
      on = (omega (arith, l.invariant.4, row.on, close.on), close.on.1);
    }
