-- What rows of drops say.
use Rattle.std.specs.Prelude.{◌≡◌, ◌⊎◌, ℕ, ◌+◌, ◌<◌, List, [], length, take, Some}
use Rattle.chip_graph.specs.Limits.{standard}
use Rattle.chip_graph.specs.ChipGame.{ChipGame}
use Rattle.chip_file.specs.DropsText.{drops_of_text}
use Rattle.chip_engine.specs.DropRows.{rows_text}
use Rattle.chip_command.specs.Inputs.{MeansGame}
use Rattle.chip_engine.specs.AvalanchesCommand.{Closes, TellsDrops}

-- by the status: with 0 each drop has its row; with 2 the drops before the first that the limit stops have one, or the
-- limit stops the game itself, and there are none
abbrev pub AreRowsBy : ChipGame → List (ℕ × ℕ) → List ℕ → ℕ → Type 0
AreRowsBy g ds text status =
    ((status ≡ 0) × TellsDrops g ds text)
    ⊎ ((status ≡ 2) × (n : ℕ) × (n < length ds) × TellsDrops g (take n ds) text × (Closes g (take (n + 1) ds) → ⊥))
    ⊎ ((status ≡ 2) × (text ≡ rows_text []) × (Closes g [] → ⊥))

-- these are the rows of these drops on the game of these texts
abbrev pub AreDropRows : (graph_text chips_text drops_text : List ℕ) → ℕ → List ℕ → ℕ → Type 0
AreDropRows graph_text chips_text drops_text limit text status =
    (g : ChipGame) × MeansGame standard graph_text chips_text limit g
    × (ds : List (ℕ × ℕ)) × (drops_of_text g.graph.vertices drops_text ≡ Some ds) × AreRowsBy g ds text status
