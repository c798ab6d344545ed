use Rattle.chip_report.proofs.ListLemmas.{ApartBelow}
use Rattle.chip_report.proofs.reportable.are_apart.Given as goal

abbrev pub invariant-loop-vertex : goal.invariant-loop-vertex
invariant-loop-vertex l = ApartBelow l.over l.sealed l.vertex-index
