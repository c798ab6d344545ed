use Rattle.chip_report.proofs.Names.{sym, ◌∙◌}
use Rattle.chip_report.proofs.ReportLemmas.{outcome_by_counts, halted_of_outcome}
use Rattle.chip_report.proofs.reportable.is_outcome.Goals as goal
use Rattle.chip_report.proofs.reportable.is_outcome.Goals.{then-are_counts, else-are_counts}

pub returns-then-are_counts-2 : goal.returns-then-are_counts-2
returns-then-are_counts-2 c = elim c.if-are_counts.branch [
  | then-are_counts w ↦
      let fired = rw c.deref.ensures.value at (c.are_counts.ensures.0 w.if-are_counts.true) in
      let chips = rw w.deref-then-are_counts.ensures.value at
      (w.are_counts-then-are_counts.ensures.0 (sym w.value-is ∙ c.if-are_counts-2.true)) in
      let over = c.deref-then-are_counts-2.ensures.value in
      let sealed = c.deref-then-are_counts-2-2.ensures.value in (
        λ e. outcome_by_counts c.args.outcome.now c.len-vertices.result fired chips
            (rw (over, sealed) at (c.are_halted.ensures.0 e)),
        λ h. c.are_halted.ensures.1
            (rw (over, sealed) (halted_of_outcome c.args.outcome.now c.len-vertices.result fired.0 h)),
      )
  | else-are_counts w ↦ absurd cc
]
