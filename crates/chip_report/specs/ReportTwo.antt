-- The report of a play in several stages: one line of compact JSON, its members in alphabetical order. It has the
-- report of the last stage, and under `prior` how often each vertex fired in the stages before it.
use Rattle.std.specs.Prelude.{◌≡◌, ◌⊎◌, ℕ, List, ◌++◌, codes, length, replicate}
use Rattle.chip_graph.specs.Limits.{SizeLimits}
use Rattle.chip_sequence.specs.declared.resumed.Resumed.{Resumed}
use Rattle.chip_sequence.specs.Stages.{IsResumed}
use Rattle.chip_report.specs.ReportText.{array_text, bool_text, is_closed}
use Rattle.chip_report.specs.Reportable.{Content, content, IsReportOf, FitsIn}

-- the report of a later stage
abbrev pub report_two_text : Resumed → List ℕ
report_two_text r =
    codes "{\"chips\":" ++ array_text r.outcome.chips.items
    ++ codes ",\"closed\":" ++ bool_text (is_closed r.outcome)
    ++ codes ",\"fired\":" ++ array_text r.outcome.fired.items
    ++ codes ",\"over\":" ++ array_text r.outcome.over.items
    ++ codes ",\"prior\":" ++ array_text r.prior.items
    ++ codes ",\"sealed\":" ++ array_text r.outcome.sealed.items
    ++ codes ",\"version\":2}\n"

-- the stage can be reported, and the bytes are its report
pub record IsReportTwoOf (bytes : List ℕ) (r : Resumed) : Type 0 where
  pub reportable : IsResumed r
  pub spelled : bytes ≡ report_two_text r

-- the bytes are the report of a first stage, before which nothing was fired, or of a later one
abbrev pub IsAnyReportOf : List ℕ → Resumed → Type 0
IsAnyReportOf bytes r =
    (IsReportOf bytes r.outcome × (r.prior.items ≡ replicate (length r.outcome.fired.items) 0)) ⊎ IsReportTwoOf bytes r

-- ---- the same within limits

-- the bytes are the report of a later stage, and it fits in the limits
abbrev pub IsReportTwoWithin : SizeLimits → List ℕ → Resumed → Type 0
IsReportTwoWithin limits bytes r = IsReportTwoOf bytes r × FitsIn limits r.outcome

-- the bytes are the report of no later stage that fits in the limits
abbrev pub IsNoReportTwoWithin : SizeLimits → List ℕ → Type 0
IsNoReportTwoWithin limits bytes = (r : Resumed) → IsReportTwoWithin limits bytes r → ⊥

-- the bytes are the report of any stage, and it fits in the limits
abbrev pub IsAnyReportWithin : SizeLimits → List ℕ → Resumed → Type 0
IsAnyReportWithin limits bytes r = IsAnyReportOf bytes r × FitsIn limits r.outcome

-- the bytes are the report of no stage that fits in the limits
abbrev pub IsNoReportAtAllWithin : SizeLimits → List ℕ → Type 0
IsNoReportAtAllWithin limits bytes = (r : Resumed) → IsAnyReportWithin limits bytes r → ⊥

-- ---- the numbers of a stage

-- the numbers of a stage, without their places in memory
pub record StageContent : Type 0 where
  pub last : Content
  pub prior : List ℕ

-- the numbers that a stage reports
abbrev pub stage_content : Resumed → StageContent
stage_content r = record { last = content r.outcome; prior = r.prior.items }
