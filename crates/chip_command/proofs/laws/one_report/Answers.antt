use Rattle.chip_command.proofs.OneReportLemmas as same
use Rattle.chip_command.proofs.laws.one_report.Goals as goal

pub returns : goal.returns
returns c = same.one_report
