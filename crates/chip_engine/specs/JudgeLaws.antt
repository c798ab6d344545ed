-- The report on a log is unique.
use Rattle.std.specs.Prelude.{◌≡◌, ℕ, Bool, true, false, List, [], Some, Result, Ok, Err}
use Rattle.chip_graph.specs.Limits.{SizeLimits}
use Rattle.chip_log.specs.declared.row.LogRow.{LogRow}
use Rattle.chip_log.specs.Log.{steps_of, HasEnds}
use Rattle.chip_log.specs.declared.past.Sizes.{Sizes}
use Rattle.chip_file.specs.LogText.{log_of_text}
use Rattle.chip_command.specs.declared.ended.Ended.{Ended}
use Rattle.chip_command.specs.declared.fault.Fault.{Fault}
use Rattle.chip_command.specs.declared.fault.Fault.TheVariants.{Absent, Stuck}
use Rattle.chip_engine.specs.declared.judge.JudgeOptions.{JudgeOptions}
use Rattle.chip_engine.specs.JudgeCommand.{JudgeAnswers, JudgesBy}

-- logs with the same rows of each process, however these are mixed, have the same text and status
abbrev pub OneAnswer : Type 0
OneAnswer = (first past : Bool) (log other : List LogRow) (text again : List ℕ) (status exit : ℕ) → HasEnds log
    → ((p : ℕ) → steps_of p log ≡ steps_of p other) → JudgesBy first past log text status → JudgesBy first past other again exit
    → (text ≡ again) × (status ≡ exit)

-- two texts mean logs with the same rows of each process, however these are mixed
pub record MeanSame (limits : SizeLimits) (one two : List ℕ) : Type 0 where
  pub log : List LogRow
  pub other : List LogRow
  pub sizes : Sizes
  pub others : Sizes
  pub one_is : log_of_text limits one ≡ Some (log, sizes)
  pub two_is : log_of_text limits two ≡ Some (other, others)
  pub same : (p : ℕ) → steps_of p log ≡ steps_of p other

-- whether the log alone decides an end of the command: a report, an absent process, or rows without an order. The other
-- ends of such texts are those of a machine that failed
abbrev pub is_of_log : Result Ended Fault → Bool
is_of_log (Ok ended) = true
is_of_log (Err (Absent p)) = true
is_of_log (Err (Stuck p i)) = true
is_of_log other = false

-- whatever the log decides of one of two such texts, with what is written, it decides of the other, by the same options
abbrev pub SameTexts : Type 0
SameTexts = (options : JudgeOptions) (one two text again : List ℕ) (ended other : Result Ended Fault)
    → MeanSame options.limits one two → JudgeAnswers (Some one) options (Some []) (Some text) ended
    → JudgeAnswers (Some two) options (Some []) (Some again) other → is_of_log ended ≡ true → is_of_log other ≡ true
    → (text ≡ again) × (ended ≡ other)
