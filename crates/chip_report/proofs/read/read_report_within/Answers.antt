use Rattle.chip_report.specs.Reportable.{IsReportWithin}
use Rattle.chip_report.proofs.ReportLemmas.{grows_on, passed_on}
use Rattle.chip_report.proofs.read.read_report_within.Goals as goal

pub returns-in_err-resumed-clause-outcome : goal.returns-in_err-resumed-clause-outcome
returns-in_err-resumed-clause-outcome c =
    passed_on (IsReportWithin c.args.limits c.args.bytes.now) c.from_residual.result c.in_err-resumed.field-0.0
    c.from_residual.ensures.1 c.in_err-resumed.ensures.stage (λ none. none)

pub returns-in_err-resumed-clause-memory : goal.returns-in_err-resumed-clause-memory
returns-in_err-resumed-clause-memory c =
    grows_on c.args.bytes.now c.from_residual.result c.in_err-resumed.field-0.0 c.from_residual.ensures.1
    c.in_err-resumed.ensures.memory
