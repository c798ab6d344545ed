-- A play in several stages, by the reports that the commands write.
use Rattle.std.specs.Prelude.{◌≡◌, ℕ, List, [], ◌∷◌, ◌++◌, codes, slice_index, Some, Ok}
use Rattle.chip_graph.specs.Limits.{SizeLimits}
use Rattle.chip_graph.specs.Multigraph.{Multigraph}
use Rattle.chip_graph.specs.ChipGame.{ChipGame}
use Rattle.chip_file.specs.GraphText.{MeansGraph}
use Rattle.chip_sequence.specs.declared.resumed.Resumed.{Resumed}
use Rattle.chip_report.specs.ReportTwo.{IsAnyReportOf}
use Rattle.chip_part.specs.Setting.{Setting}
use Rattle.chip_core.specs.Core.{Log}
use Rattle.chip_core.specs.Positions.{chips_given}
use Rattle.chip_command.specs.Inputs.{ReadsWithin, MeansGame}
use Rattle.chip_command.specs.OneReport.{PlainWrote}
use Rattle.chip_command.specs.Stage.{TellsPlayFrom}
use Rattle.chip_engine.specs.ResumeCommand.{LeadsToTheEnd, ResumeAnswers}
use Rattle.chip_engine.specs.SimulateCommand.{EndsClosed}
use Rattle.chip_command.specs.declared.ended.Ended.{Ended}

-- `resume` wrote this report, by whatever limits, given the one before it
abbrev pub IsResumedTo : (graph_text before report : List ℕ) → Type 0
IsResumedTo graph_text before report =
    (limits : SizeLimits) × (limit : ℕ) × (ended : Ended) × ResumeAnswers limits (Some graph_text) (Some before) limit
    (Some []) (Some report) (Ok ended)

-- `resume` wrote these reports, given `first` and then each time the one before; the last of all is `last`
abbrev pub AreResumed : (graph_text first : List ℕ) → List (List ℕ) → (last : List ℕ) → Type 0
AreResumed graph_text first [] last = first ≡ last
AreResumed graph_text first (report ∷ reports) last =
    IsResumedTo graph_text first report × AreResumed graph_text report reports last

-- the report of `plain` describes a play from the start of its game
abbrev pub PlainTellsPlay : Type 0
PlainTellsPlay =
    (limits : SizeLimits) (graph_text chips_text : List ℕ) (limit : ℕ) (report : List ℕ) (status : ℕ)
    → PlainWrote graph_text chips_text limit report status → (g : ChipGame)
    → MeansGame limits graph_text chips_text limit g → TellsPlayFrom g.graph (slice_index g.start) report

-- so does the report of a simulation that closed, from the chips that were given in it, whatever halted its vertices
abbrev pub SimulateTellsPlay : Type 0
SimulateTellsPlay =
    (g : Setting) (log : Log) (end report : List ℕ) (status : ℕ) → EndsClosed g log end status
    → end ≡ codes "root closed\n" ++ report → TellsPlayFrom g.game.graph (chips_given g log) report

-- however often a play was resumed since a report of it from x, and once more: the last report leads to the end of the
-- play that was never stopped
abbrev pub ResumedPlaysAddUp : Type 0
ResumedPlaysAddUp =
    (limits : SizeLimits) (graph_text : List ℕ) (G : Multigraph) → ReadsWithin limits graph_text (MeansGraph limits graph_text G)
    → (x : ℕ → ℕ) (first : List ℕ) → TellsPlayFrom G x first
    → (reports : List (List ℕ)) (before last : List ℕ) → AreResumed graph_text first reports before
    → IsResumedTo graph_text before last → (r : Resumed) → IsAnyReportOf last r → LeadsToTheEnd G x r
