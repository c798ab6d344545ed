use Rattle.std.proofs.Common.{nat_lt, rules}
use Rattle.std.proofs.lemmas.Fn.{always_returns_same}
use Rattle.chip_detect.specs.declared.tallies.Tally.{Tally}
use Rattle.chip_library.proofs.BooksLemmas.{ascend_if, ascend_then}
use Rattle.chip_library.proofs.detector.ascend.Goals as goal

pub returns : goal.returns
returns c =
    let answer = c.is_sorted_by.ensures.cases (λ (one next : Tally). nat_lt one.edge next.edge)
    (always_returns_same _ _ _ (λ a r f' k. search rules)) in
    (ascend_if c.args.tallies.now c.is_sorted_by.result answer, ascend_then c.args.tallies.now c.is_sorted_by.result answer)
