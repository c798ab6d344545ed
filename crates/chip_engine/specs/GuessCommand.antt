-- From the bytes of a graph file, a chips file and a guess of the counts to those of the report of the game.
use Rattle.std.specs.Prelude.{◌≡◌, ◌≢◌, ◌⊎◌, ℕ, ◌<◌, ◌==◌, Bool, true, false, List, length, slice_index, Option, Some}
use Rattle.std.specs.Prelude.{Result}
use Rattle.std.specs.Global.{Vec}
use Rattle.std.specs.Option.{ForSome}
use Rattle.chip_graph.specs.Limits.{SizeLimits}
use Rattle.chip_file.specs.GuessText.{guess_of_text, guess_text_fault}
use Rattle.chip_sequence.specs.Stages.{fired_in_all}
use Rattle.chip_sequence.specs.declared.resumed.Resumed.{Resumed}
use Rattle.chip_sequence.specs.declared.resumed.ResumeFault.TheVariants.{Mismatch}
use Rattle.chip_report.specs.ReportTwo.{IsAnyReportWithin, IsNoReportAtAllWithin}
use Rattle.chip_command.specs.CommandAnswers.{Spec, bind, CommandAnswers, OrMemory}
use Rattle.chip_command.specs.Inputs.{ReadsWithin, RefusesText, reading_game}
use Rattle.chip_command.specs.PlainCommand.{playing}
use Rattle.chip_command.specs.declared.ended.Ended.{Ended}
use Rattle.chip_command.specs.declared.fault.Fault.{Fault}
use Rattle.chip_command.specs.declared.fault.Fault.TheVariants.{NotReport, Resume}

-- the first byte of a text is a brace, as in a report
abbrev pub has_brace : List ℕ → Bool
has_brace text = slice_index text 0 == 123

-- a report of `vertices` vertices has these counts, in all its stages
pub record TellsCounts (limits : SizeLimits) (vertices : ℕ) (text counts : List ℕ) : Type 0 where
  pub told : Resumed
  pub report : IsAnyReportWithin limits text told
  pub as_many : length told.outcome.fired.items ≡ vertices
  pub counts_each : length counts ≡ vertices
  pub counted : (v : ℕ) → v < vertices → slice_index counts v ≡ fired_in_all told v

-- a text means these counts of `vertices` vertices: a report if it has a brace, else rows
pub record MeansGuess (limits : SizeLimits) (vertices : ℕ) (text counts : List ℕ) : Type 0 where
  pub report : has_brace text ≡ true → TellsCounts limits vertices text counts
  pub rows : has_brace text ≡ false → guess_of_text vertices text ≡ Some counts

-- a text is a report of another number of vertices
abbrev pub IsOfOthers : SizeLimits → ℕ → List ℕ → Type 0
IsOfOthers limits vertices text =
    (told : Resumed) × IsAnyReportWithin limits text told × (length told.outcome.fired.items ≢ vertices)

-- reading the counts of a text with a brace failed by this fault: it is no report, or one of another number of
-- vertices, or there is no memory
abbrev pub RefusesTold : SizeLimits → ℕ → List ℕ → Fault → Type 0
RefusesTold limits vertices text = OrMemory (λ fault. (IsNoReportAtAllWithin limits text × (fault ≡ NotReport))
    ⊎ (IsOfOthers limits vertices text × (fault ≡ Resume Mismatch)))

-- reading a guess failed by this fault: the input could not be read whole, or its rows or its report are wrong
abbrev pub RefusesGuess : SizeLimits → ℕ → List ℕ → Fault → Type 0
RefusesGuess limits vertices text fault =
    RefusesText limits text (λ f. (has_brace text ≡ false) × (guess_text_fault vertices text ≡ Some f)) fault
    ⊎ ReadsWithin limits text ((has_brace text ≡ true) × RefusesTold limits vertices text fault)

-- what reading a guess for `vertices` vertices may give
abbrev pub reading_guess : SizeLimits → ℕ → Option (List ℕ) → Spec (Vec ℕ)
reading_guess limits vertices guess = record {
  gives = λ counts. ForSome guess (λ text. ReadsWithin limits text (MeansGuess limits vertices text counts.items));
  refuses = λ fault. ForSome guess (λ text. RefusesGuess limits vertices text fault);
}

-- the results of `plain` with a guess by these limits: those without one, if the guess is one
abbrev pub GuessAnswers : SizeLimits → (graph chips guess : Option (List ℕ)) → ℕ → Option (List ℕ) → Option (List ℕ)
    → Result Ended Fault → Type 0
GuessAnswers limits graph chips guess limit old new result = CommandAnswers
    (bind (reading_game limits graph chips limit)
    (λ g. bind (reading_guess limits g.graph.vertices guess) (λ _. playing g))) old new result
