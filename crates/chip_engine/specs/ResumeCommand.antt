-- From the bytes of a graph file and a report to those of the report of the stage that follows.
use Rattle.std.specs.Prelude.{◌≡◌, ◌⊎◌, ℕ, ◌+◌, List, true, slice_index, Option, Result}
use Rattle.std.specs.Option.{ForSome}
use Rattle.chip_graph.specs.Limits.{SizeLimits}
use Rattle.chip_graph.specs.Multigraph.{Multigraph}
use Rattle.chip_sequence.specs.Sequence.{position_after, IsFiringSequence, counts, HasEnded}
use Rattle.chip_sequence.specs.Stages.{IsPlayFrom, IsResumed, fired_in_all}
use Rattle.chip_sequence.specs.Resume.{GoesOn, IsResumeFault}
use Rattle.chip_sequence.specs.declared.resumed.Resumed.{Resumed}
use Rattle.chip_sequence.specs.declared.resumed.ResumeFault.{ResumeFault}
use Rattle.chip_report.specs.ReportText.{is_closed}
use Rattle.chip_report.specs.ReportTwo.{report_two_text, IsAnyReportWithin, IsNoReportAtAllWithin}
use Rattle.chip_command.specs.CommandAnswers.{Spec, bind, CommandAnswers, OrMemory}
use Rattle.chip_command.specs.Faults.{fault_of_resume}
use Rattle.chip_command.specs.Inputs.{ReadsWithin, RefusesText, reading_graph}
use Rattle.chip_command.specs.Reports.{plain_status}
use Rattle.chip_command.specs.declared.ended.Ended.{Ended}
use Rattle.chip_command.specs.declared.fault.Fault.{Fault}
use Rattle.chip_command.specs.declared.fault.Fault.TheVariants.{NotReport}

-- the firings in all and the chips are those of every sequence from the start x that ends
pub record EndsThePlay (G : Multigraph) (x : ℕ → ℕ) (r : Resumed) : Type 0 where
  pub counted : (vs : List ℕ) → IsFiringSequence G x vs → HasEnded G x vs → (v : ℕ) → fired_in_all r v ≡ counts vs v
  pub position : (vs : List ℕ) → IsFiringSequence G x vs → HasEnded G x vs
      → (v : ℕ) → slice_index r.outcome.chips.items v ≡ position_after G x vs v

-- with the counts of any sequence from these chips that ends, the firings in all are those of every sequence from the
-- start x that ends, and all end at the same position
pub record LeadsToTheEnd (G : Multigraph) (x : ℕ → ℕ) (r : Resumed) : Type 0 where
  pub leads : IsPlayFrom G x r
  pub ends_alike : let y = slice_index r.outcome.chips.items in
      (ws : List ℕ) → IsFiringSequence G y ws → HasEnded G y ws
      → (vs : List ℕ) → IsFiringSequence G x vs → HasEnded G x vs
      → ((v : ℕ) → fired_in_all r v + counts ws v ≡ counts vs v)
      × ((v : ℕ) → position_after G y ws v ≡ position_after G x vs v)
  pub closed : is_closed r.outcome ≡ true → EndsThePlay G x r

-- a text and a status are the report of the stage that follows an earlier one, and its status; from wherever the
-- earlier stages led, this one leads on to the end of the play that was never stopped
pub record ReportsOn (G : Multigraph) (earlier : Resumed) (limit : ℕ) (text : List ℕ) (status : ℕ) : Type 0 where
  pub resumed : Resumed
  pub goes_on : GoesOn G earlier limit resumed
  pub adds_up : (x : ℕ → ℕ) → IsPlayFrom G x earlier → LeadsToTheEnd G x resumed
  pub reported : text ≡ report_two_text resumed
  pub status_is : status ≡ plain_status resumed.outcome

-- reading a report failed by this fault: the input could not be read whole, or it is no report of either version
abbrev pub RefusesReport : SizeLimits → List ℕ → Fault → Type 0
RefusesReport limits text fault =
    RefusesText limits text (λ f. ⊥) fault ⊎ (ReadsWithin limits text (IsNoReportAtAllWithin limits text) × (fault ≡ NotReport))

-- what reading a report may give: the first stage of a play, or a later one
abbrev pub reading_stage : SizeLimits → Option (List ℕ) → Spec Resumed
reading_stage limits report = record {
  gives = λ told. ForSome report (λ text. ReadsWithin limits text (IsAnyReportWithin limits text told)) × IsResumed told;
  refuses = λ fault. ForSome report (λ text. RefusesReport limits text fault);
}

-- going on from a stage gives the report of the next one, and its status; or this is the first reason why it does not
-- go on, or there is no memory
abbrev pub going_on : Multigraph → ℕ → Resumed → Spec (List ℕ × ℕ)
going_on G limit earlier = record {
  gives = λ (text, status). ReportsOn G earlier limit text status;
  refuses = OrMemory (λ fault. (f : ResumeFault) × (fault ≡ fault_of_resume f) × IsResumeFault G earlier limit f);
}

-- the results of `resume` by these limits
abbrev pub ResumeAnswers : SizeLimits → Option (List ℕ) → Option (List ℕ) → ℕ → Option (List ℕ) → Option (List ℕ)
    → Result Ended Fault → Type 0
ResumeAnswers limits graph report limit old new result = CommandAnswers
    (bind (reading_graph limits graph) (λ G. bind (reading_stage limits report) (going_on G limit))) old new result
