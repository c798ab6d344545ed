use Rattle.chip_report.proofs.Names.{sym, ◌∙◌}
use Rattle.chip_report.proofs.reportable.are_halted.Goals as goal
use Rattle.chip_report.proofs.reportable.are_halted.Goals.{then-is_ascending_below, else-is_ascending_below}

pub returns-then-is_ascending_below-2 : goal.returns-then-is_ascending_below-2
returns-then-is_ascending_below-2 c = elim c.if-is_ascending_below.branch [
  | then-is_ascending_below w ↦
      let over = c.is_ascending_below.ensures.0 w.if-is_ascending_below.true in
      let sealed = w.is_ascending_below-then-is_ascending_below.ensures.0
      (sym w.value-is ∙ c.if-is_ascending_below-2.true) in
      (λ e. (over, sealed, c.are_apart.ensures.0 e), λ h. c.are_apart.ensures.1 h.2)
  | else-is_ascending_below w ↦ absurd cc
]
