use Rattle.chip_file.proofs.JsonNames.{◌≡◌, Some, None, sym, ap, ◌∙◌, arith, refl, after_end_array, item, and_items}
use Rattle.chip_file.proofs.JsonNames.{and_number, edge_in}
use Rattle.chip_file.proofs.Turns.{none_before, one_more, no_more, all_read}
use Rattle.chip_file.proofs.Rowed.{row_read}
use Rattle.chip_file.proofs.graph_text.rows.row_of.Goals as goal

pub numbers-init : goal.numbers-init
numbers-init c = (_, none_before c.args.depth c.args.reader.now, (λ rest. refl))

pub returns-in_err-number-clause-value : goal.returns-in_err-number-clause-value
returns-in_err-number-clause-value c =
    let l = c.numbers in
    let going : (after_end_array l.reader ≡ None) × (c.take_end_array.new.self ≡ l.reader) = grind arith in
    let none = no_more l.invariant.1 going.0 going.1 c.in_err-number.ensures.value in
    grind (arith, none)

pub numbers-preserved : goal.numbers-preserved
numbers-preserved c =
    let l = c.numbers in
    let going : (after_end_array l.reader ≡ None) × (c.take_end_array.new.self ≡ l.reader) = grind arith in
    let done = c.in_ok-number.ensures in (
      _,
      one_more l.invariant.1 going.0 going.1 done.value.1 done.shorter,
      (λ rest. l.invariant.2 (item done.value.0 rest) ∙ ap (λ n. and_items (and_number l.row n) rest) done.value.2
          ∙ ap (λ k. and_items k rest) (sym c.and-row.ensures)),
    )

pub returns-clause-value : goal.returns-clause-value
returns-clause-value c =
    let l = c.numbers in
    let over : after_end_array l.reader ≡ Some c.take_end_array.new.self = grind arith in
    let ds = l.invariant.0 _ in (
      ds,
      all_read l.invariant.1 over,
      sym (row_read ds) ∙ ap edge_in (l.invariant.2 _) ∙ sym c.edge.ensures,
    )
