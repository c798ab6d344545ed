-- From the bytes of a graph file, a chips file and a file of drops to the rows of the drops, and to a report.
use Rattle.std.specs.Prelude.{◌≡◌, ◌⊎◌, ℕ, ◌+◌, ◌<◌, ◌≤◌, false, List, [], length, take, sum, slice_index, Option}
use Rattle.std.specs.Prelude.{None, Some, Result, Ok, Err}
use Rattle.std.specs.Io.KnownBytes.{Appends, Keeps}
use Rattle.std.specs.Result.{IsErrAnd}
use Rattle.chip_graph.specs.Limits.{SizeLimits, max_total}
use Rattle.chip_graph.specs.ChipGame.{ChipGame}
use Rattle.chip_graph.specs.More.{HasMore, AreOfVertices, all_brought}
use Rattle.chip_graph.specs.declared.fault.GameFault.TheVariants.{Total}
use Rattle.chip_file.specs.DropsText.{drops_of_text, drops_text_fault}
use Rattle.chip_sequence.specs.Play.{IsPlayed}
use Rattle.chip_sequence.specs.declared.outcome.Outcome.{Outcome}
use Rattle.chip_sequence.specs.Sequence.{IsWholePlay, HasEnded}
use Rattle.chip_engine.specs.DropRows.{TellsRows, FailsOut, rows_text}
use Rattle.chip_report.specs.ReportText.{is_closed, report_text}
use Rattle.chip_report.specs.Written.{WritesAll}
use Rattle.chip_report.specs.declared.write.WriteFault.{WriteFault}
use Rattle.chip_command.specs.CommandAnswers.{Spec, bind}
use Rattle.chip_command.specs.Inputs.{GaveGame, reading, reading_game}
use Rattle.chip_command.specs.Reports.{plain_status}
use Rattle.chip_command.specs.declared.ended.Ended.{Ended}
use Rattle.chip_command.specs.declared.fault.Fault.{Fault}
use Rattle.chip_command.specs.declared.fault.Fault.TheVariants.{Game, Write, WriteFile, NoMemory}

-- what reading the drops for a game may give: they have a fault, or the chips in all are too many
abbrev pub reading_drops : SizeLimits → Option (List ℕ) → ChipGame → Spec (List (ℕ × ℕ))
reading_drops limits drops g =
    let named = reading limits (λ text ds. drops_of_text g.graph.vertices text ≡ Some ds)
    (λ text f. drops_text_fault g.graph.vertices text ≡ Some f) drops in record {
      gives = λ ds. named.gives ds × AreOfVertices g ds × (sum g.start + all_brought ds ≤ max_total);
      refuses = λ fault. named.refuses fault
          ⊎ ((ds : List (ℕ × ℕ)) × named.gives ds × (max_total < sum g.start + all_brought ds) × (fault ≡ Game Total));
    }

-- the limit does not stop the play of the game with these drops: some play to its end within the limit leaves no vertex
-- legal
abbrev pub Closes : ChipGame → List (ℕ × ℕ) → Type 0
Closes g ds = (g' : ChipGame) × HasMore g ds g' × ((vs : List ℕ)
    × IsWholePlay g'.graph (slice_index g'.start) g'.limit vs × HasEnded g'.graph (slice_index g'.start) vs)

-- a text has the rows of these drops on the game, each the avalanche on what the drop before it left, and the limit
-- stops none of their plays
abbrev pub TellsDrops : ChipGame → List (ℕ × ℕ) → List ℕ → Type 0
TellsDrops g ds text = Closes g ds × (outcome : Outcome) × IsPlayed g outcome
    × (left : ℕ → ℕ) × TellsRows g.graph (slice_index outcome.chips.items) ds text left

-- what the drops result in: a text with a row for each, and the game with all their chips; or the limit stopped the
-- play of the drop at i, the text has the rows before it, and the game the chips up to it; or the limit stopped the
-- game itself, and the text is the first line
abbrev pub DropsComeTo : ChipGame → List (ℕ × ℕ) → List ℕ → ChipGame → Outcome → Type 0
DropsComeTo g ds text g' outcome =
    (TellsDrops g ds text × HasMore g ds g')
    ⊎ ((i : ℕ) × (i < length ds) × TellsDrops g (take i ds) text × HasMore g (take (i + 1) ds) g'
    × (is_closed outcome ≡ false))
    ⊎ ((text ≡ rows_text []) × (g' ≡ g) × (is_closed outcome ≡ false))

-- what two outputs hold: that of the rows, and that of the report if there is one
pub record RowOutputs : Type 0 where
  pub rows : Option (List ℕ)
  pub report : Option (Option (List ℕ))

-- the results of playing the game and then the drops: the outcome of the game with the dropped chips; or there was no
-- memory for the play, or a fault came after a prefix of the first line, or of the rows of some drops
abbrev pub PlaysDrops : ChipGame → List (ℕ × ℕ) → Option (List ℕ) → Option (List ℕ) → Result Outcome Fault → Type 0
PlaysDrops g ds old new (Ok outcome) = (text : List ℕ) × (g' : ChipGame) × DropsComeTo g ds text g' outcome
    × IsPlayed g' outcome × Appends old new text
PlaysDrops g ds old new (Err fault) =
    ((fault ≡ NoMemory) × Keeps old new)
    ⊎ ((w : WriteFault) × (fault ≡ Write w) × WritesAll old new (rows_text []) (Err w))
    ⊎ ((n : ℕ) × (text : List ℕ) × TellsDrops g (take n ds) text × FailsOut old new text fault)

-- how a command ends that reports an outcome
abbrev pub ended_of : Outcome → Ended
ended_of outcome = record { status = plain_status outcome; cut = false }

-- the results of writing the report, if asked for: all of it is written; or only a prefix, or there is no memory
abbrev pub ReportAnswer : Option (Option (List ℕ)) → Option (Option (List ℕ)) → Outcome → Result Ended Fault → Type 0
ReportAnswer None None outcome result = result ≡ Ok (ended_of outcome)
ReportAnswer (Some old) (Some new) outcome (Ok ended) = (ended ≡ ended_of outcome) × Appends old new (report_text outcome)
ReportAnswer (Some old) (Some new) outcome (Err WriteFile) =
    (w : WriteFault) × WritesAll old new (report_text outcome) (Err w)
ReportAnswer (Some old) (Some new) outcome (Err NoMemory) = Keeps old new
ReportAnswer _ _ outcome result = ⊥

-- the results of dropping chips on a game: the rows are written, and then the report; or writing the rows failed
abbrev pub DropsAnswer : ChipGame → List (ℕ × ℕ) → RowOutputs → RowOutputs → Result Ended Fault → Type 0
DropsAnswer g ds old new result =
    ((outcome : Outcome) × PlaysDrops g ds old.rows new.rows (Ok outcome)
    × ReportAnswer old.report new.report outcome result)
    ⊎ IsErrAnd result (λ fault. PlaysDrops g ds old.rows new.rows (Err fault) × (new.report ≡ old.report))

-- the results of `avalanches` by these limits: the inputs make no game, or the drops have a fault, or the chips in all
-- are too many, and nothing was written; or those of dropping the chips
abbrev pub AvalanchesAnswers : SizeLimits → (graph chips drops : Option (List ℕ)) → ℕ → RowOutputs → RowOutputs
    → Result Ended Fault → Type 0
AvalanchesAnswers limits graph chips drops limit old new result =
    IsErrAnd result (λ fault. (bind (reading_game limits graph chips limit) (reading_drops limits drops)).refuses fault
    × Keeps old.rows new.rows × (new.report ≡ old.report))
    ⊎ ((g : ChipGame) × GaveGame limits graph chips limit g × (ds : List (ℕ × ℕ))
    × (reading_drops limits drops g).gives ds × DropsAnswer g ds old new result)
