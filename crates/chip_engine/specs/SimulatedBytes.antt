-- What `simulate` writes of a game, compared with what `plain` writes.
use Rattle.std.specs.Prelude.{◌≡◌, ◌⊎◌, ℕ, List, [], Some}
use Rattle.chip_graph.specs.Limits.{SizeLimits}
use Rattle.chip_graph.specs.ChipGame.{ChipGame}
use Rattle.chip_sequence.specs.declared.outcome.Outcome.{Outcome}
use Rattle.chip_report.specs.ReportText.{report_text}
use Rattle.chip_command.specs.Inputs.{MeansGame}
use Rattle.chip_command.specs.OneReport.{PlainWrote}
use Rattle.chip_command.specs.declared.ended.Ended.{Ended}
use Rattle.chip_engine.specs.SimulateReport.{SimulateWrites, EndsOpen, EndsAsPlain, fed_by_replies}
use Rattle.chip_engine.specs.declared.simulate.SimulateOptions.{SimulateOptions}

-- the report of an outcome and a status are those that `plain` writes for any texts that mean this game
abbrev pub IsWhatPlainWrites : ChipGame → Outcome → ℕ → Type 0
IsWhatPlainWrites g o status =
    (limits : SizeLimits) (graph_text chips_text : List ℕ) → MeansGame limits graph_text chips_text g.limit g
    → (report : List ℕ) (t : ℕ) → PlainWrote graph_text chips_text g.limit report t → (report_text o ≡ report) × (status ≡ t)

-- whatever `simulate` wrote that ended well: the root is open; or it is closed, and the report is the one that `plain`
-- writes for the whole game, with all chips at the start that the game had or that a reply reports as fed, unless it
-- names a sealed vertex
abbrev pub SimulatedBytes : Type 0
SimulatedBytes =
    (graph_text chips_text schedule_text : List ℕ) (options : SimulateOptions) (out : List ℕ) (ended : Ended)
    → (did : SimulateWrites options graph_text chips_text schedule_text (Some []) (Some out) ended)
    → EndsOpen did.end ended.status
    ⊎ ((closed : EndsAsPlain did.game options.fed (fed_by_replies did.game did.events did.replies) did.end ended.status)
    × (closed.outcome.sealed.items ≡ [] → IsWhatPlainWrites closed.whole closed.outcome ended.status))
