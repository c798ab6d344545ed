use Rattle.chip_report.proofs.Names.{◌≡◌, ◌<◌, ◌≤◌, length, inr, refl, sym, ◌∙◌, arith, lit<, eqb-false, YieldsList-at}
use Rattle.chip_report.proofs.Names.{YieldsList-turn, YieldsList-end, YieldsList-from_str_split, numbers_spelled}
use Rattle.chip_report.proofs.BracketLemmas.{none_of_many, none_with, no_number, few_numbers, numbers_of-shown}
use Rattle.chip_report.proofs.ReportLemmas.{passed_on}
use Rattle.chip_report.proofs.lists.numbers_of.Goals as goal

pub returns-then-len-most : goal.returns-then-len-most
returns-then-len-most c =
    let none = eqb-false _ 0 (sym c.is_empty.ensures ∙ c.if-is_empty.false) in
    let some : 0 < length c.args.list.now = omega arith in
    let road = YieldsList-at c.into_iter-digits-iterator.ensures.into_iter_gives
    (YieldsList-from_str_split 44 c.args.list.now (lit< tt) c.split-digits-items.ensures.text
    c.split-digits-items.ensures.has_more c.split-digits-items.ensures.pattern) in
    let turn = YieldsList-turn road c.loop-digits.yielded _ c.loop-digits.yielded_by _ _ c.in-Some.digits c.in-Some.is
    c.next.ensures.steps in
    inr (refl, none_of_many c.args.most c.args.list.now (length c.loop-digits.yielded) some turn.0 (omega arith))

pub returns-in_err-ok_or : goal.returns-in_err-ok_or
returns-in_err-ok_or c =
    let none = eqb-false _ 0 (sym c.is_empty.ensures ∙ c.if-is_empty.false) in
    let some : 0 < length c.args.list.now = omega arith in
    let road = YieldsList-at c.into_iter-digits-iterator.ensures.into_iter_gives
    (YieldsList-from_str_split 44 c.args.list.now (lit< tt) c.split-digits-items.ensures.text
    c.split-digits-items.ensures.has_more c.split-digits-items.ensures.pattern) in
    let turn = YieldsList-turn road c.loop-digits.yielded _ c.loop-digits.yielded_by _ _ c.in-Some.digits c.in-Some.is
    c.next.ensures.steps in
    passed_on (λ numbers. (numbers.items ≡ numbers_spelled c.args.list.now) × (length numbers.items ≤ c.args.most))
    c.from_residual.result c.in_err-ok_or.field-0.0 c.from_residual.ensures.1
    (no_number c.in-Some.digits.now c.number_of.result c.in_err-ok_or.field-0.0 c.number_of.ensures
    c.in_err-ok_or.ensures.value)
    (none_with c.args.most c.args.list.now c.in-Some.digits.now (length c.loop-digits.yielded) some turn.0 turn.1)

pub returns : goal.returns
returns c =
    let none = eqb-false _ 0 (sym c.is_empty.ensures ∙ c.if-is_empty.false) in
    let some : 0 < length c.args.list.now = omega arith in
    let road = YieldsList-at c.into_iter-digits-iterator.ensures.into_iter_gives
    (YieldsList-from_str_split 44 c.args.list.now (lit< tt) c.split-digits-items.ensures.text
    c.split-digits-items.ensures.has_more c.split-digits-items.ensures.pattern) in
    let end = YieldsList-end road c.loop-digits.yielded _ c.loop-digits.yielded_by _ _ c.in-None.is
    c.next.ensures.steps in (
      numbers_of-shown c.args.list.now c.loop-digits.yielded c.loop-digits.numbers.items some end.0
          c.loop-digits.invariant.read,
      few_numbers c.loop-digits.yielded c.loop-digits.numbers.items c.args.most c.loop-digits.invariant.read
          (omega arith),
    )
