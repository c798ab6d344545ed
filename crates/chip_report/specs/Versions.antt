-- Reports of both versions: of a later stage, and of a first one, before which nothing was fired.
use Rattle.std.specs.Prelude.{◌≡◌, ℕ, Bool, true, false, List, length, replicate}
use Rattle.chip_graph.specs.Limits.{SizeLimits}
use Rattle.chip_sequence.specs.declared.resumed.Resumed.{Resumed}
use Rattle.chip_report.specs.ReportText.{report_text}
use Rattle.chip_report.specs.Reportable.{IsReportWithin, IsNoReportWithin, FitsIn}
use Rattle.chip_report.specs.ReportLists.{list_at}
use Rattle.chip_report.specs.ReportTwo.{report_two_text, IsReportTwoWithin, IsNoReportTwoWithin}
use Rattle.chip_report.specs.ReportTwo.{StageContent, stage_content}

-- the report of a stage
abbrev pub text_in : Bool → Resumed → List ℕ
text_in true r = report_two_text r
text_in false r = report_text r.outcome

-- the bytes are the report of a stage that fits in the limits
abbrev pub IsReportIn : Bool → SizeLimits → List ℕ → Resumed → Type 0
IsReportIn true limits bytes r = IsReportTwoWithin limits bytes r
IsReportIn false limits bytes r =
    IsReportWithin limits bytes r.outcome × (r.prior.items ≡ replicate (length r.outcome.fired.items) 0)

-- the bytes are the report of no such stage
abbrev pub IsNoReportIn : Bool → SizeLimits → List ℕ → Type 0
IsNoReportIn true limits bytes = IsNoReportTwoWithin limits bytes
IsNoReportIn false limits bytes = IsNoReportWithin limits bytes

-- the numbers of a text, if it is a report
abbrev pub content_by_text : Bool → List ℕ → StageContent
content_by_text true text = record {
  last = record { fired = list_at 1 text; chips = list_at 0 text; over = list_at 2 text; sealed = list_at 4 text };
  prior = list_at 3 text;
}
content_by_text false text = record {
  last = record { fired = list_at 1 text; chips = list_at 0 text; over = list_at 2 text; sealed = list_at 3 text };
  prior = replicate (length (list_at 1 text)) 0;
}

-- the stage has the numbers of a text, and fits in the limits
abbrev pub IsToldBy : Bool → SizeLimits → List ℕ → Resumed → Type 0
IsToldBy went_on limits text r = (stage_content r ≡ content_by_text went_on text) × FitsIn limits r.outcome
