-- What callers ask.
use Rattle.std.specs.Prelude.{◌≡◌, ◌↔◌, ℕ, ◌<◌, ◌==◌, if◌then◌else◌, Bool, true, List, [], ◌∷◌, slice_index}
use Rattle.chip_graph.specs.Limits.{standard, max_limit}
use Rattle.chip_graph.specs.Multigraph.{Multigraph}
use Rattle.chip_graph.specs.ChipGame.{ChipGame}
use Rattle.chip_group.specs.Recurrent.{IsRecurrent, AreEquivalent, IsIdentity}
use Rattle.chip_file.specs.ChipsText.{text_of_chips}
use Rattle.chip_file.specs.GraphText.{MeansGraph}
use Rattle.chip_sequence.specs.Sequence.{position_after, IsFiringSequence, counts, HasEnded, IsWithin, IsWholePlay}
use Rattle.chip_sequence.specs.Stages.{fired_in_all}
use Rattle.chip_sequence.specs.declared.outcome.Outcome.{Outcome}
use Rattle.chip_sequence.specs.declared.resumed.Resumed.{Resumed}
use Rattle.chip_fire.specs.Avalanches.{dropped, Tells}
use Rattle.chip_fire.specs.declared.avalanche.Avalanche.{Avalanche}
use Rattle.chip_report.specs.ReportText.{report_text}
use Rattle.chip_report.specs.ReportTwo.{IsAnyReportWithin}
use Rattle.chip_command.specs.Inputs.{MeansGame}

-- a list of vertices is a whole play of the game
abbrev pub IsFullPlay : ChipGame → List ℕ → Type 0
IsFullPlay g vs = IsWholePlay g.graph (slice_index g.start) g.limit vs

-- the chips of each vertex after it
abbrev pub final_chips : ChipGame → List ℕ → ℕ → ℕ
final_chips g vs = position_after g.graph (slice_index g.start) vs

-- the game has a whole play, and each fires each vertex as often as `fired` says and leaves these chips
pub record IsEveryEnd (g : ChipGame) (fired chips : List ℕ) : Type 0 where
  pub some : (vs : List ℕ) × IsFullPlay g vs
  pub counted : (vs : List ℕ) → IsFullPlay g vs → (v : ℕ) → slice_index fired v ≡ counts vs v
  pub left : (vs : List ℕ) → IsFullPlay g vs → (v : ℕ) → slice_index chips v ≡ final_chips g vs v

-- wherever a whole play of the game ended: `count` chips dropped on v there set off this avalanche, in each firing
-- sequence that ends
abbrev pub SetsOffAvalanche : ChipGame → (v count : ℕ) → Avalanche → Type 0
SetsOffAvalanche g v count a = (us : List ℕ) → IsFullPlay g us → (vs : List ℕ)
    → IsFiringSequence g.graph (dropped (final_chips g us) v count) vs
    → HasEnded g.graph (dropped (final_chips g us) v count) vs
    → Tells g.graph (dropped (final_chips g us) v count) a vs

-- some firing sequence of the game within its limit fires each vertex as often as `fired` says and leaves these chips
pub record IsSomeEnd (g : ChipGame) (fired chips : List ℕ) : Type 0 where
  pub vs : List ℕ
  pub sequence : IsFiringSequence g.graph (slice_index g.start) vs
  pub within : IsWithin g.limit vs
  pub counted : (v : ℕ) → slice_index fired v ≡ counts vs v
  pub left : (v : ℕ) → slice_index chips v ≡ final_chips g vs v

-- the report of the game of two texts: that of every end
abbrev pub IsGameReport : (graph_text chips_text : List ℕ) → ℕ → List ℕ → Type 0
IsGameReport graph_text chips_text limit report = (g : ChipGame) × MeansGame standard graph_text chips_text limit g
    × (o : Outcome) × IsEveryEnd g o.fired.items o.chips.items × (report ≡ report_text o)

-- a report of any stage gives the counts and the chips of every whole play of the game of two texts
abbrev pub IsToldEnd : (graph_text chips_text : List ℕ) → ℕ → List ℕ → Type 0
IsToldEnd graph_text chips_text limit report = (g : ChipGame) × MeansGame standard graph_text chips_text limit g
    × (told : Resumed) × IsAnyReportWithin standard report told
    × ((vs : List ℕ) → IsFullPlay g vs → (v : ℕ) → v < g.graph.vertices
    → (fired_in_all told v ≡ counts vs v) × (slice_index told.outcome.chips.items v ≡ final_chips g vs v))

-- what v fired, in order
abbrev pub firings_by : ℕ → List (ℕ × ℕ) → List ℕ
firings_by v [] = []
firings_by v (x ∷ xs) = if x.0 == v then x.1 ∷ firings_by v xs else firings_by v xs

-- a text has the recurrent chips equivalent to those of two texts, and the flag says whether those are recurrent
abbrev pub IsRecurrentOf : (graph_text chips_text text : List ℕ) → Bool → Type 0
IsRecurrentOf graph_text chips_text text is_it = (g : ChipGame) × MeansGame standard graph_text chips_text max_limit g
    × (c : List ℕ) × (text ≡ text_of_chips c) × IsRecurrent g.graph (slice_index c)
    × AreEquivalent g.graph (slice_index g.start) (slice_index c)
    × ((is_it ≡ true) ↔ IsRecurrent g.graph (slice_index g.start))

-- a text has the identity of the group of another text's graph
abbrev pub IsIdentityOf : (graph_text text : List ℕ) → Type 0
IsIdentityOf graph_text text = (G : Multigraph) × MeansGraph standard graph_text G
    × (c : List ℕ) × (text ≡ text_of_chips c) × IsIdentity G (slice_index c)
