-- The report of a game played to its end, the exit status of its command, and how a text is written.
use Rattle.std.specs.Prelude.{◌≡◌, ℕ, List, Option, Result, Ok, Err, if◌then◌else◌}
use Rattle.std.specs.Io.KnownBytes.{Appends}
use Rattle.chip_graph.specs.ChipGame.{ChipGame}
use Rattle.chip_sequence.specs.Play.{IsPlayed}
use Rattle.chip_sequence.specs.declared.outcome.Outcome.{Outcome}
use Rattle.chip_report.specs.ReportText.{is_closed, report_text}
use Rattle.chip_report.specs.Written.{WritesAll}
use Rattle.chip_report.specs.declared.write.WriteFault.{WriteFault}
use Rattle.chip_command.specs.Statuses.{number_of_status}
use Rattle.chip_command.specs.declared.ended.Ended.{Ended}
use Rattle.chip_command.specs.declared.fault.Fault.{Fault}
use Rattle.chip_command.specs.declared.fault.Fault.TheVariants.{Write}
use Rattle.chip_command.specs.declared.status.Status.{Status}
use Rattle.chip_command.specs.declared.status.Status.TheVariants.{Done, Halted}

-- how a game ended: halted if a limit or a seal stopped some vertex
abbrev pub status_of_outcome : Outcome → Status
status_of_outcome outcome = if is_closed outcome then Done else Halted

-- the number of its exit status: 2 if the limit left a vertex legal
abbrev pub plain_status : Outcome → ℕ
plain_status outcome = number_of_status (status_of_outcome outcome)

-- a text and a status are the report of a game played to its end, and its status
abbrev pub Reports : ChipGame → List ℕ → ℕ → Type 0
Reports g text status =
    (outcome : Outcome) × IsPlayed g outcome × (text ≡ report_text outcome) × (status ≡ plain_status outcome)

-- a text was written whole and the command ended so, or the output failed
abbrev pub Delivers : Option (List ℕ) → Option (List ℕ) → List ℕ → Ended → Result Ended Fault → Type 0
Delivers old new text ended (Ok told) = (told ≡ ended) × Appends old new text
Delivers old new text ended (Err fault) = (w : WriteFault) × (fault ≡ Write w) × WritesAll old new text (Err w)
