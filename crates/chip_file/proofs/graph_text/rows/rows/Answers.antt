use Rattle.chip_file.proofs.JsonNames.{◌≡◌, Some, None, ◌∙◌, arith, after_end_array}
use Rattle.chip_file.proofs.Turns.{none_before, one_more, no_more, all_read}
use Rattle.chip_file.proofs.Rowed.{rows_more, rows_spoilt, rows_over, no_rows_over, no_rows}
use Rattle.chip_file.proofs.graph_text.rows.rows.Goals as goal

pub rows-init : goal.rows-init
rows-init c = (
  _,
  none_before c.args.depth c.args.reader.now,
  no_rows c.new-edges.result.items c.new-edges.ensures.items,
)

pub returns-in_err-edge-clause-value : goal.returns-in_err-edge-clause-value
returns-in_err-edge-clause-value c =
    let l = c.rows in
    let going : (after_end_array l.reader ≡ None) × (c.take_end_array.new.self ≡ l.reader) = grind arith in
    let none = no_more l.invariant.1 going.0 going.1 c.in_err-edge.ensures.value in
    grind (arith, none)

pub rows-preserved-in_default : goal.rows-preserved-in_default
rows-preserved-in_default c =
    let l = c.rows in
    let going : (after_end_array l.reader ≡ None) × (c.take_end_array.new.self ≡ l.reader) = grind arith in
    let done = c.in_ok-edge.ensures in
    let none = done.value.2 ∙ c.in_default.is in (
      _,
      one_more l.invariant.1 going.0 going.1 done.value.1 done.shorter,
      rows_spoilt c.args.most l.are_edges l.invariant.0 l.edges.items _ none l.invariant.2,
    )

pub rows-preserved : goal.rows-preserved
rows-preserved c =
    let l = c.rows in
    let going : (after_end_array l.reader ≡ None) × (c.take_end_array.new.self ≡ l.reader) = grind arith in
    let done = c.in_ok-edge.ensures in (
      _,
      one_more l.invariant.1 going.0 going.1 done.value.1 done.shorter,
      rows_more l.are_edges l.invariant.0 l.edges.items _ _ c.in-Some.edge (done.value.2
          ∙ c.in-Some.is) c.in_ok-keep.ensures.kept l.invariant.2,
    )

pub returns-then-are_edges-clause-value : goal.returns-then-are_edges-clause-value
returns-then-are_edges-clause-value c =
    let l = c.rows in
    let over : after_end_array l.reader ≡ Some c.take_end_array.new.self = grind arith in (
      _,
      all_read l.invariant.1 over,
      rows_over l.invariant.0 l.edges (rw c.if-are_edges.true at l.invariant.2),
    )

pub returns-clause-value : goal.returns-clause-value
returns-clause-value c =
    let l = c.rows in
    let over : after_end_array l.reader ≡ Some c.take_end_array.new.self = grind arith in (
      _,
      all_read l.invariant.1 over,
      no_rows_over c.args.most l.invariant.0 (rw c.if-are_edges.false at l.invariant.2),
    )
