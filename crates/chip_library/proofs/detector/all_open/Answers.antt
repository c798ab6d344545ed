use Rattle.std.proofs.Common.{◌≤◌, arith, List, length, ap, ◌∙◌}
use Rattle.std.specs.List.{sum_by}
use Rattle.std.proofs.lemmas.List.{take_all}
use Rattle.chip_detect.specs.declared.tallies.Tally.{Tally}
use Rattle.chip_library.proofs.BooksLemmas.{open_of, all_open_is}
use Rattle.chip_library.proofs.detector.all_open.Goals as goal

pub returns : goal.returns
returns c =
    let ts : List Tally = c.args.tallies.now in
    let all : length ts ≤ c.loop-tally.tally-index = c.loop-tally-test.false in (
      record { few = c.loop-tally.invariant.0; each = λ i in_range. c.loop-tally.invariant.3 i (omega arith) },
      λ are. c.loop-tally.invariant.1
          ∙ ap (λ (us : List Tally). sum_by open_of us) (take_all c.loop-tally.tally-index ts all) ∙ all_open_is ts are,
    )
