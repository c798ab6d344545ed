-- A game has one report, whoever writes it.
use Rattle.std.specs.Prelude.{◌≡◌, ℕ, List, [], Some}
use Rattle.chip_graph.specs.Limits.{SizeLimits}
use Rattle.chip_graph.specs.ChipGame.{ChipGame}
use Rattle.chip_command.specs.PlainCommand.{PlainWrites}
use Rattle.chip_command.specs.Reports.{Reports}
use Rattle.chip_command.specs.declared.ended.Ended.{Ended}

-- a game has one report and one status
abbrev pub OneReport : Type 0
OneReport = (g : ChipGame) (one other : List ℕ) (s t : ℕ) → Reports g one s → Reports g other t → (one ≡ other) × (s ≡ t)

-- `plain` wrote this report of the game that the texts mean, by whatever limits of its size, and ended with this status
abbrev pub PlainWrote : (graph_text chips_text : List ℕ) → ℕ → List ℕ → ℕ → Type 0
PlainWrote graph_text chips_text limit report status =
    (limits : SizeLimits) × (ended : Ended)
    × PlainWrites limits graph_text chips_text limit (Some []) (Some report) ended × (status ≡ ended.status)
