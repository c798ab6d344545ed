-- The library's results for games and drops, and what `plain` and `avalanches` write of them, or why `plain` refuses.
use Rattle.std.specs.Prelude.{◌≡◌, ◌↔◌, ◌⊎◌, ℕ, ◌<◌, List, length, slice_index, Option, Some, Result, Ok, Err, [], take}
use Rattle.std.specs.Result.{IsErrAnd}
use Rattle.std.specs.List.{zip}
use Rattle.chip_graph.specs.Limits.{SizeLimits}
use Rattle.chip_graph.specs.ChipGame.{ChipGame}
use Rattle.chip_graph.specs.declared.fault.GameFault.{GameFault}
use Rattle.chip_file.specs.declared.fault.FileFault.TheVariants.{Read}
use Rattle.chip_file.specs.DropsText.{drops_of_text}
use Rattle.chip_sequence.specs.Counted.{game_from}
use Rattle.chip_sequence.specs.Play.{IsPlayed}
use Rattle.chip_sequence.specs.declared.outcome.Outcome.{Outcome}
use Rattle.chip_report.specs.ReportText.{report_text}
use Rattle.chip_command.specs.FaultNumbers.{command_fault_number}
use Rattle.chip_command.specs.Inputs.{MeansGame, NamesGame}
use Rattle.chip_command.specs.OneReport.{PlainWrote}
use Rattle.chip_command.specs.PlainCommand.{PlainAnswers}
use Rattle.chip_command.specs.Reports.{plain_status}
use Rattle.chip_command.specs.declared.ended.Ended.{Ended}
use Rattle.chip_command.specs.declared.fault.Fault.{Fault}
use Rattle.chip_command.specs.declared.fault.Fault.TheVariants.{File, NoMemory}
use Rattle.chip_engine.specs.DropRows.{rows_text}
use Rattle.chip_engine.specs.AvalanchesCommand.{AvalanchesAnswers, ReportAnswer}
use Rattle.chip_library.specs.declared.fault.CallFault.TheVariants.{Game as OfGame, Differs, Stopped}
use Rattle.chip_library.specs.declared.kept.PileState.TheVariants.{ToPlay, Stable}
use Rattle.chip_library.specs.declared.edges.EdgeLists.{EdgeLists}
use Rattle.chip_library.specs.Batch.{Games, StabilizesAll, game_at, row}
use Rattle.chip_library.specs.CallFaults.{call_fault_number}
use Rattle.chip_library.specs.Claims.{Verifies, IsDifference}
use Rattle.chip_library.specs.EdgeLists.{graph_of}
use Rattle.chip_library.specs.KeptGames.{KeptGame, IsKept, BeginsGame, Rows, DropsEach, with_rows}
use Rattle.chip_library.specs.Drops.{Told, Columns, Avalanches, AreOn, AreTold, game_of}

-- ---- games

-- an outcome of this game; each report of the game that `plain` writes is of it, and so is the exit status
pub record IsReported (g : ChipGame) (o : Outcome) : Type 0 where
  pub played : IsPlayed g o
  pub reports : (limits : SizeLimits) (graph_text chips_text report : List ℕ) (status : ℕ)
      → MeansGame limits graph_text chips_text g.limit g → PlainWrote graph_text chips_text g.limit report status
      → (report ≡ report_text o) × (status ≡ plain_status o)

-- a row of many games is the outcome in the report of its game
abbrev pub RowsAgree : Type 0
RowsAgree = (lists : EdgeLists) (limit : ℕ) (guesses : List ℕ) (old new : Games)
    → StabilizesAll lists limit guesses old new (Ok tt) → (i : ℕ) → i < length old.stopped
    → (o : Outcome) × IsReported (game_at (graph_of lists) limit old.chips i) o
    × (row lists.vertices new.chips i ≡ o.chips.items) × (row lists.vertices new.fired i ≡ o.fired.items)
    × (slice_index new.stopped i ≡ length o.over.items)

-- counts and chips that a call accepts are those in the report of the game
abbrev pub ClaimsAgree : Type 0
ClaimsAgree = (lists : EdgeLists) (limit : ℕ) (chips fired ends : List ℕ)
    → Verifies lists limit chips fired ends (Ok tt)
    → (o : Outcome) × IsReported (game_from (graph_of lists) chips limit) o
    × (ends ≡ o.chips.items) × (fired ≡ o.fired.items)

-- and of those that it refuses, it names the least vertex for which the report has others
abbrev pub DifferencesAgree : Type 0
DifferencesAgree = (lists : EdgeLists) (limit : ℕ) (chips fired ends : List ℕ) (v : ℕ)
    → Verifies lists limit chips fired ends (Err (Differs v))
    → (o : Outcome) × IsReported (game_from (graph_of lists) chips limit) o × IsDifference o fired ends v

-- a pile whose play has ended has the chips and counts in the report of its game, the game with all chips that were
-- dropped; it is stable exactly if the limit stopped no vertex
abbrev pub PilesAgree : Type 0
PilesAgree = (k : KeptGame) → IsKept k.pile k.state → (k.state ≡ ToPlay → ⊥)
    → (o : Outcome) × IsReported k.pile.game o
    × (k.pile.chips.items ≡ o.chips.items) × (k.pile.fired.items ≡ o.fired.items)
    × ((k.state ≡ Stable) ↔ (length o.over.items ≡ 0))

-- a command ends with a fault of this number, or the machine failed: a read failed, or memory ran out
abbrev pub EndsByNumber : ℕ → Result Ended Fault → Type 0
EndsByNumber number result =
    IsErrAnd result (λ fault. (command_fault_number fault ≡ number) ⊎ (fault ≡ File Read) ⊎ (fault ≡ NoMemory))

-- numbers that make a graph and no game: a call names the first fault, and `plain` refuses with the same number
abbrev pub GamesAreRefused : Type 0
GamesAreRefused = (lists : EdgeLists) (limit : ℕ) (guesses : List ℕ) (old new : Games) (f : GameFault) (i : ℕ)
    → StabilizesAll lists limit guesses old new (Err (OfGame f i))
    → (limits : SizeLimits) (graph_text chips_text : List ℕ)
    → NamesGame limits graph_text chips_text limit (game_at (graph_of lists) limit old.chips i)
    → (before after : Option (List ℕ)) (result : Result Ended Fault)
    → PlainAnswers limits (Some graph_text) (Some chips_text) limit before after result
    → EndsByNumber (call_fault_number (OfGame f i)) result

-- ---- drops

-- whenever texts mean this game and drops on these vertices, of these amounts, and `avalanches` wrote rows of them, and
-- a report if it was requested: the rows are those of these avalanches, and the exit status and the report are those of
-- an outcome of which this holds
abbrev pub Agree : ChipGame → (at amounts : List ℕ) → List Told → (Outcome → Type 0) → Type 0
Agree g at amounts told IsEnd = (limits : SizeLimits) (graph_text chips_text drops_text rows : List ℕ)
    (asked report : Option (Option (List ℕ))) (ended : Ended) → MeansGame limits graph_text chips_text g.limit g
    → drops_of_text g.graph.vertices drops_text ≡ Some (zip at amounts)
    → AvalanchesAnswers limits (Some graph_text) (Some chips_text) (Some drops_text) g.limit
    (record { rows = Some []; report = asked }) (record { rows = Some rows; report = report }) (Ok ended)
    → (rows ≡ rows_text told) × (o : Outcome) × IsEnd o × ReportAnswer asked report o (Ok ended)

-- all drops were made: these are their avalanches, they left these chips, and no limit stopped a play
abbrev pub AgreeOnAll : ChipGame → (at amounts chips : List ℕ) → List Told → Type 0
AgreeOnAll g at amounts chips told =
    AreOn told at amounts × Agree g at amounts told (λ o. (plain_status o ≡ 0) × (chips ≡ o.chips.items))

-- the limit stopped the play of drop i, or that of the game, and then i is 0: these are the avalanches of the drops
-- before it
abbrev pub AgreeBefore : ChipGame → (at amounts : List ℕ) → ℕ → List Told → Type 0
AgreeBefore g at amounts i told = (length told ≡ i) × AreOn told (take i at) (take i amounts)
    × Agree g at amounts told (λ o. plain_status o ≡ 2)

-- the avalanches of a call are the rows, and its chips those of the report
abbrev pub AvalanchesAgree : Type 0
AvalanchesAgree = (lists : EdgeLists) (limit : ℕ) (at amounts : List ℕ) (old new : Columns)
    → Avalanches lists limit at amounts old new (Ok tt)
    → (told : List Told) × AreTold told new.sizes new.extents new.losts
    × AgreeOnAll (game_of lists limit old) at amounts new.chips told

-- if the limit stops a play, the rows are those of the drops before it
abbrev pub StoppedDropsAgree : Type 0
StoppedDropsAgree = (lists : EdgeLists) (limit : ℕ) (at amounts : List ℕ) (old new : Columns) (i : ℕ)
    → Avalanches lists limit at amounts old new (Err (Stopped i))
    → (told : List Told) × AgreeBefore (game_of lists limit old) at amounts i told

-- the same holds of drops on a kept pile that was not yet played
abbrev pub KeptDropsAgree : Type 0
KeptDropsAgree = (g : ChipGame) (k new : KeptGame) (at amounts : List ℕ) (before after : Rows)
    → BeginsGame g k → DropsEach k new at amounts before after (Ok tt)
    → (told : List Told) × AreTold told after.sizes after.extents after.losts
    × AgreeOnAll g at amounts new.pile.chips.items told

-- and if the limit stops a play, the rows of the drops before it are written
abbrev pub KeptStopsAgree : Type 0
KeptStopsAgree = (g : ChipGame) (k new : KeptGame) (at amounts : List ℕ) (before after : Rows) (i : ℕ)
    → BeginsGame g k → IsKept new.pile new.state → DropsEach k new at amounts before after (Err (Stopped i))
    → (told : List Told) × (after ≡ with_rows told before) × AgreeBefore g at amounts i told
