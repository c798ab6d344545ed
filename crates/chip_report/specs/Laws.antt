-- The laws of reports, as the functions of `src/laws.rt` state them.
use Rattle.std.specs.Prelude.{◌≡◌, ◌⊎◌, ℕ, List, Result, Ok, Err}
use Rattle.chip_sequence.specs.declared.resumed.Resumed.{Resumed}
use Rattle.chip_sequence.specs.Stages.{IsResumed}
use Rattle.chip_report.specs.ReportTwo.{report_two_text, stage_content, IsReportTwoOf}
use Rattle.chip_report.specs.ReportTwo.{IsAnyReportWithin, IsNoReportAtAllWithin}
use Rattle.chip_graph.specs.Limits.{SizeLimits}
use Rattle.chip_sequence.specs.declared.outcome.Outcome.{Outcome}
use Rattle.chip_sequence.specs.Outcomes.{IsOutcome}
use Rattle.chip_report.specs.ReportText.{report_text}
use Rattle.chip_report.specs.Reportable.{content, FitsIn, IsReportOf, IsReportWithin, IsNoReportWithin, GivesReport}
use Rattle.chip_report.specs.declared.fault.ReportFault.{ReportFault}
use Rattle.chip_report.specs.declared.fault.ReportFault.TheVariants as fault

-- outcomes with the same report have the same numbers
abbrev pub OneOutcome : Type 0
OneOutcome = (one other : Outcome) → IsOutcome one → IsOutcome other → report_text one ≡ report_text other
    → content one ≡ content other

-- whatever `read_report_within` may return for the report of an outcome that fits in the limits: an outcome with the
-- same numbers, or that memory ran out
abbrev pub RoundTrip : Type 0
RoundTrip = (limits : SizeLimits) (outcome : Outcome) → IsOutcome outcome → FitsIn limits outcome
    → (answer : Result Outcome ReportFault)
    → GivesReport (IsReportWithin limits (report_text outcome)) (IsNoReportWithin limits (report_text outcome)) answer
    → ((read : Outcome) × (answer ≡ Ok read) × (content read ≡ content outcome)) ⊎ (answer ≡ Err fault.NoMemory)

-- stages with the same report have the same numbers
abbrev pub OneStage : Type 0
OneStage = (one other : Resumed) → IsResumed one → IsResumed other
    → report_two_text one ≡ report_two_text other → stage_content one ≡ stage_content other

-- whatever `read_any_within` may return for the report of a later stage that fits in the limits: a stage with the same
-- numbers, or that memory ran out
abbrev pub RoundTripTwo : Type 0
RoundTripTwo = (limits : SizeLimits) (r : Resumed) → IsResumed r → FitsIn limits r.outcome
    → (answer : Result Resumed ReportFault)
    → GivesReport (IsAnyReportWithin limits (report_two_text r)) (IsNoReportAtAllWithin limits (report_two_text r)) answer
    → ((read : Resumed) × (answer ≡ Ok read) × (stage_content read ≡ stage_content r))
    ⊎ (answer ≡ Err fault.NoMemory)

-- no text is the report both of a first stage and of a later one
abbrev pub NotBoth : Type 0
NotBoth = (bytes : List ℕ) (o : Outcome) (r : Resumed) → IsReportOf bytes o → IsReportTwoOf bytes r → ⊥
