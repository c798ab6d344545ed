-- Serves GuessCommand.antt.
-- Counts that a text gives.
use Rattle.std.proofs.Common.{◌≡◌, ◌⊎◌, ℕ, ◌≤◌, true, List, length, Option, Some, Result, Ok, Err, inl, inr}
use Rattle.std.proofs.Common.{ap, subst}
use Rattle.std.specs.Global.{Vec}
use Rattle.std.specs.Option.{ForSome}
use Rattle.std.specs.Result.{MatchResult}
use Rattle.chip_graph.specs.Limits.{SizeLimits}
use Rattle.chip_report.specs.ReportTwo.{IsNoReportAtAllWithin}
use Rattle.chip_report.specs.declared.fault.ReportFault.{ReportFault}
use Rattle.chip_report.specs.declared.fault.ReportFault.TheVariants as report_fault
use Rattle.chip_command.specs.CommandAnswers.{MeetsSpec}
use Rattle.chip_command.specs.Faults.{fault_of_report}
use Rattle.chip_command.specs.Inputs.{ReadsWithin}
use Rattle.chip_command.specs.declared.fault.Fault.{Fault}
use Rattle.chip_command.specs.PlainCommand.{PlainReports}
use Rattle.chip_command.specs.declared.ended.Ended.{Ended}
use Rattle.chip_engine.specs.GuessCommand.{has_brace, TellsCounts, MeansGuess, RefusesTold, reading_guess, GuessAnswers}

-- a text that is no report, or want of memory
pub no_report : (limits : SizeLimits) (vertices : ℕ) (text : List ℕ) (f : ReportFault)
    → (f ≡ report_fault.NoMemory) ⊎ ((f ≡ report_fault.NotReport) × IsNoReportAtAllWithin limits text)
    → RefusesTold limits vertices text (fault_of_report f)
no_report limits vertices text f (inl none) = inr (ap fault_of_report none)
no_report limits vertices text f (inr nothing) = inl (inl (nothing.1, ap fault_of_report nothing.0))

-- what holds of the bytes that were read holds of the text
pub at_text : (limits : SizeLimits) (guess : Option (List ℕ)) (bytes : List ℕ)
    → ((text : List ℕ) → guess ≡ Some text → (length text ≤ limits.bytes) × (bytes ≡ text))
    → (P : List ℕ → Type 0) → P bytes → ForSome guess (λ text. ReadsWithin limits text (P text))
at_text limits guess bytes read P holds text is = let (short, same) = read text is in (short, subst P same holds)

-- the counts of a report, or why it gives none
pub told_guess : (limits : SizeLimits) (vertices : ℕ) (guess : Option (List ℕ)) (bytes : List ℕ)
    → ((text : List ℕ) → guess ≡ Some text → (length text ≤ limits.bytes) × (bytes ≡ text))
    → has_brace bytes ≡ true → (result : Result (Vec ℕ) Fault)
    → MatchResult result (λ counts. TellsCounts limits vertices bytes counts.items) (RefusesTold limits vertices bytes)
    → MeetsSpec (reading_guess limits vertices guess) result
told_guess limits vertices guess bytes read brace (Ok counts) tells = at_text limits guess bytes read
    (λ text. MeansGuess limits vertices text counts.items) (record { report = λ _. tells; rows = λ rows. absurd (cc) })
told_guess limits vertices guess bytes read brace (Err fault) refuses = λ text is. inr (at_text limits guess bytes read
    (λ text. (has_brace text ≡ true) × RefusesTold limits vertices text fault) (brace, refuses) text is)

-- what `plain` writes with a guess is the report of the game that the other texts mean
pub guess_writes : (limits : SizeLimits) (graph chips guess : Option (List ℕ)) (limit : ℕ) (old new : Option (List ℕ))
    (result : Result Ended Fault) → GuessAnswers limits graph chips guess limit old new result
    → PlainReports limits graph chips limit old new result
guess_writes limits graph chips guess limit old new (Err fault) answers = λ graph_text graph_is chips_text chips_is. tt
guess_writes limits graph chips guess limit old new (Ok ended) answers = λ graph_text graph_is chips_text chips_is.
    let (text, (g, gave, (counts, told, reports)), out, cut) = answers.answer in
    (g, gave.means graph_text graph_is chips_text chips_is, text, reports, out)
