use Rattle.chip_file.proofs.Names.{arith, ◌≡◌, ◌<◌, ◌≤◌, Some, ap, sym, inr, true, false, sum, nat_le, le-leb}
use Rattle.chip_file.proofs.Names.{max_total, chips_header, chips_of_rows, numbers_text_fault}
use Rattle.chip_file.proofs.ChipsLemmas.{rows_fail, total_decides}
use Rattle.chip_file.proofs.KeptLemmas.{refused}
use Rattle.chip_file.proofs.chips.chips_of_text.Goals as goal

pub returns-in_err-chips : goal.returns-in_err-chips
returns-in_err-chips c =
    refused _ _ _ _ c.from_residual.ensures.1 (rows_fail c.args.vertices c.args.text.now _ c.in_err-chips.ensures)

pub returns-in-Some : goal.returns-in-Some
returns-in-Some c =
    let few : sum c.in_ok-chips.chips.items ≤ max_total =
    rw (c.in-Some.ensures.some.0, c.deref.ensures.value) at c.in-Some.ensures.some.1 in
    let fits : true ≡ nat_le (sum c.in_ok-chips.chips.items) max_total = sym (le-leb _ _ few) in
    let decides = total_decides (numbers_text_fault chips_header c.args.vertices c.args.text.now)
    (chips_of_rows c.args.vertices c.args.text.now) _ _ c.in_ok-chips.ensures fits in
    rw decides.0 (ap Some decides.1)

pub returns-in-None : goal.returns-in-None
returns-in-None c =
    let many : max_total < sum c.in_ok-chips.chips.items = rw c.deref.ensures.value at c.in-None.ensures.none in
    let fails : false ≡ nat_le (sum c.in_ok-chips.chips.items) max_total = grind (arith, many) in
    inr (total_decides (numbers_text_fault chips_header c.args.vertices c.args.text.now)
    (chips_of_rows c.args.vertices c.args.text.now) _ _ c.in_ok-chips.ensures fails).0
