-- Worked values: logs that mean the same, ends of commands, and what is written of a game.
use Rattle.std.specs.Prelude.{◌≡◌, ℕ, true, false, List, [], ◌∷◌, codes, Some, None, Ok, Err}
use Rattle.chip_graph.specs.Limits.{SizeLimits, standard}
use Rattle.chip_graph.specs.ChipGame.{ChipGame}
use Rattle.chip_graph.specs.declared.fault.GameFault.TheVariants.{Total}
use Rattle.chip_log.specs.Judged.{control}
use Rattle.chip_log.specs.declared.row.LogRow.{LogRow}
use Rattle.chip_log.specs.declared.row.Step.{Step}
use Rattle.chip_log.specs.declared.row.Step.TheVariants.{Out, Passive, Active, Over}
use Rattle.chip_file.specs.DropsText.{drops_of_text}
use Rattle.chip_file.specs.LogText.{log_of_text}
use Rattle.chip_file.specs.declared.fault.FileFault.TheVariants.{Read}
use Rattle.chip_sequence.specs.declared.outcome.Outcome.{Outcome}
use Rattle.chip_command.specs.Inputs.{MeansGame}
use Rattle.chip_command.specs.declared.ended.Ended.{Ended}
use Rattle.chip_command.specs.declared.fault.Fault.TheVariants.{File, Game, Stuck}
use Rattle.chip_engine.specs.AvalanchesCommand.{AvalanchesAnswers}
use Rattle.chip_engine.specs.JudgeLaws.{MeanSame, is_of_log}
use Rattle.chip_engine.specs.Worked.{triangle_within}
use Rattle.chip_library.specs.Drops.{Told}
use Rattle.chip_agree.specs.Reported.{IsReported, EndsByNumber, AgreeOnAll, AgreeBefore}

abbrev pub row : ℕ → Step → LogRow
row p step = record { process = p; step = step }

-- process 0 begins active, becomes passive and claims; process 1 tells
abbrev pub in_order : List LogRow
in_order = row 0 Active ∷ row 1 (Out (control 1)) ∷ row 0 Passive ∷ row 0 Over ∷ []

-- the same, with the row of process 1 first
abbrev pub mixed : List LogRow
mixed = row 1 (Out (control 1)) ∷ row 0 Active ∷ row 0 Passive ∷ row 0 Over ∷ []

-- process 0 claims before it becomes passive
abbrev pub swapped : List LogRow
swapped = row 0 Active ∷ row 1 (Out (control 1)) ∷ row 0 Over ∷ row 0 Passive ∷ []

-- a text means this log
abbrev pub MeansLog : List ℕ → List LogRow → Type 0
MeansLog text log = log_of_text standard text ≡ Some (log, record { processes = 2; channels = 2 })

-- texts of the first two mean the same, and one of the third does not; the log decides a report and stuck rows, and not
-- a failed read
pub record WorkedLogs : Type 0 where
  pub same : (one two : List ℕ) → MeansLog one in_order → MeansLog two mixed → MeanSame standard one two
  pub not_same : (one two : List ℕ) → MeansLog one in_order → MeansLog two swapped → MeanSame standard one two → ⊥
  pub report : (ended : Ended) → is_of_log (Ok ended) ≡ true
  pub stuck : is_of_log (Err (Stuck 1 2)) ≡ true
  pub failed : is_of_log (Err (File Read)) ≡ false

-- a refusal has its number, and a failed read may come in its place, but no report
pub record WorkedEnds : Type 0 where
  pub refused : EndsByNumber 10 (Err (Game Total))
  pub failed : EndsByNumber 10 (Err (File Read))
  pub other : EndsByNumber 11 (Err (Game Total)) → ⊥
  pub report : (ended : Ended) → EndsByNumber 10 (Ok ended) → ⊥

-- only this outcome is reported of the triangle with four chips on vertex 0
abbrev pub WorkedOutcome : Type 0
WorkedOutcome = (o : Outcome) → IsReported (triangle_within 2) o
    → (o.fired.items ≡ 2 ∷ 1 ∷ 0 ∷ []) × (o.chips.items ≡ 1 ∷ 0 ∷ 3 ∷ [])

-- one chip on vertex 0, which fires once and sends one chip to the sink
abbrev pub one_drop : List Told
one_drop = ((0, 1), record { size = 1; extent = 1; lost = 1 }) ∷ []

-- whatever texts mean this game and one chip on vertex 0, `avalanches` writes this text and has this status
abbrev pub Writes : ChipGame → List ℕ → ℕ → Type 0
Writes g text status = (limits : SizeLimits) (graph_text chips_text drops_text rows : List ℕ) (ended : Ended)
    → MeansGame limits graph_text chips_text g.limit g
    → drops_of_text g.graph.vertices drops_text ≡ Some ((0, 1) ∷ [])
    → AvalanchesAnswers limits (Some graph_text) (Some chips_text) (Some drops_text) g.limit
    (record { rows = Some []; report = None }) (record { rows = Some rows; report = None }) (Ok ended)
    → (rows ≡ text) × (ended.status ≡ status)

-- a call that makes this drop agrees on its row, and one that the limit stops agrees on none; neither agrees if the
-- drop is on another vertex, or if the limit stops a later one
pub record WorkedDrops : Type 0 where
  pub made : (g : ChipGame) (chips : List ℕ) → AgreeOnAll g (0 ∷ []) (1 ∷ []) chips one_drop
      → Writes g (codes "vertex,chips,size,extent,lost\n0,1,1,1,1\n") 0
  pub stopped : (g : ChipGame) → AgreeBefore g (0 ∷ []) (1 ∷ []) 0 []
      → Writes g (codes "vertex,chips,size,extent,lost\n") 2
  pub elsewhere : (g : ChipGame) (chips : List ℕ) → AgreeOnAll g (1 ∷ []) (1 ∷ []) chips one_drop → ⊥
  pub later : (g : ChipGame) → AgreeBefore g (0 ∷ []) (1 ∷ []) 1 [] → ⊥
