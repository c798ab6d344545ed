-- Which bytes are a report, and of which outcome.
use Rattle.std.specs.Prelude.{◌≡◌, ◌≤◌, ◌⊎◌, ℕ, List, [], ◌∷◌, ◌++◌, length, Result, Ok, Err, IfErr}
use Rattle.chip_graph.specs.Limits.{SizeLimits}
use Rattle.chip_sequence.specs.declared.outcome.Outcome.{Outcome}
use Rattle.chip_sequence.specs.Outcomes.{IsOutcome}
use Rattle.chip_report.specs.ReportText.{report_text}
use Rattle.chip_report.specs.declared.fault.ReportFault.{ReportFault}
use Rattle.chip_report.specs.declared.fault.ReportFault.TheVariants as fault

-- the numbers of an outcome, without their places in memory
pub record Content : Type 0 where
  pub fired : List ℕ
  pub chips : List ℕ
  pub over : List ℕ
  pub sealed : List ℕ

-- the numbers that an outcome reports
abbrev pub content : Outcome → Content
content outcome = record {
  fired = outcome.fired.items;
  chips = outcome.chips.items;
  over = outcome.over.items;
  sealed = outcome.sealed.items;
}

-- the outcome can be reported, and the bytes are its report
pub record IsReportOf (bytes : List ℕ) (outcome : Outcome) : Type 0 where
  pub reportable : IsOutcome outcome
  pub spelled : bytes ≡ report_text outcome

-- the outcome has no more vertices than the limits allow
abbrev pub FitsIn : SizeLimits → Outcome → Type 0
FitsIn limits outcome = length outcome.fired.items ≤ limits.vertices

-- the bytes are the report of the outcome, and it fits in the limits
abbrev pub IsReportWithin : SizeLimits → List ℕ → Outcome → Type 0
IsReportWithin limits bytes outcome = IsReportOf bytes outcome × FitsIn limits outcome

-- the bytes are the report of no outcome that fits in the limits
abbrev pub IsNoReportWithin : SizeLimits → List ℕ → Type 0
IsNoReportWithin limits bytes = (outcome : Outcome) → IsReportWithin limits bytes outcome → ⊥

-- want of memory is returned only for bytes that end as a report does
abbrev pub GrowsForALine : {T : Type 0} → List ℕ → Result T ReportFault → Type 0
GrowsForALine bytes result = IfErr result (λ f. f ≡ fault.NoMemory → (json : List ℕ) × (bytes ≡ json ++ 10 ∷ []))

-- a value that is right, or `NotReport` if there is none; memory may always run out
abbrev pub GivesReport : {T : Type 0} → (T → Type 0) → Type 0 → Result T ReportFault → Type 0
GivesReport IsRight HasNone (Ok value) = IsRight value
GivesReport IsRight HasNone (Err f) = (f ≡ fault.NoMemory) ⊎ ((f ≡ fault.NotReport) × HasNone)
