use Rattle.chip_report.proofs.Names.{rules, nat_lt, always_returns_same}
use Rattle.chip_report.proofs.ListLemmas.{ascends_if, ascends_then}
use Rattle.chip_report.proofs.reportable.is_ascending.Goals as goal

pub returns : goal.returns
returns c =
    let answer = c.is_sorted_by.ensures.cases nat_lt (always_returns_same _ _ _ (λ a r f' k. search rules)) in
    (ascends_if c.args.list.now c.is_sorted_by.result answer, ascends_then c.args.list.now c.is_sorted_by.result answer)
