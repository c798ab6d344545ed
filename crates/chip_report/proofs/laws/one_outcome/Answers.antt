use Rattle.chip_report.proofs.ReportLemmas.{one_outcome}
use Rattle.chip_report.proofs.laws.one_outcome.Goals as goal

pub returns : goal.returns
returns c = one_outcome
