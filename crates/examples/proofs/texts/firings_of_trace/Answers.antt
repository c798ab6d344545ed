use Rattle.std.proofs.Common.{ap, ◌∙◌}
use Rattle.chip_trace.specs.Interleaving.{fires}
use Rattle.examples.specs.Answers.{firings_by}
use Rattle.examples.proofs.EndLemmas.{fired_by_rows}
use Rattle.examples.proofs.texts.firings_of_trace.Goals as goal

pub returns : goal.returns
returns c =
    let (xs, whole, is) = c.in_ok-replay.ensures in (
      _,
      rw c.deref.ensures.value (rw c.graph.ensures.value at c.in_ok-traces.ensures.means.1),
      λ v. ap (firings_by v) is ∙ fired_by_rows v xs ∙ ap fires (whole.whole v),
    )
