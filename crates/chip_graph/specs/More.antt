-- A game with more chips at the start. They are given by pairs of a vertex and a number of chips.
use Rattle.std.specs.Prelude.{◌≡◌, ℕ, ◌+◌, ◌<◌, ◌≤◌, ◌==◌, if◌then◌else◌, List, length, sum, sum_by, All}
use Rattle.std.specs.Prelude.{slice_index, Result, Ok, Err}
use Rattle.chip_graph.specs.Limits.{max_total}
use Rattle.chip_graph.specs.ChipGame.{ChipGame}

-- the chips that the pairs bring to v
abbrev pub brought_to : List (ℕ × ℕ) → ℕ → ℕ
brought_to more v = sum_by (λ pair. if pair.0 == v then pair.1 else 0) more

-- the number of chips of all pairs
abbrev pub all_brought : List (ℕ × ℕ) → ℕ
all_brought more = sum_by (λ pair. pair.1) more

-- each pair is of a vertex of the game
abbrev pub AreOfVertices : ChipGame → List (ℕ × ℕ) → Type 0
AreOfVertices g more = All (λ pair. pair.0 < g.graph.vertices) more

-- with these chips more the total stays within the limit
abbrev pub HasRoomForChips : ChipGame → List (ℕ × ℕ) → Type 0
HasRoomForChips g more = sum g.start + all_brought more ≤ max_total

-- the game with these chips more at the start, and all else unchanged
pub record HasMore (old : ChipGame) (more : List (ℕ × ℕ)) (new : ChipGame) : Type 0 where
  pub same_graph : new.graph ≡ old.graph
  pub same_limit : new.limit ≡ old.limit
  pub start_each : length new.start ≡ length old.start
  pub start : (v : ℕ) → v < length old.start → slice_index new.start v ≡ slice_index old.start v + brought_to more v
  pub total : sum new.start ≡ sum old.start + all_brought more

-- the result of adding chips: the game with more if the total stays within the limit, else the unchanged game
abbrev pub AddsChips : ChipGame → List (ℕ × ℕ) → Result ChipGame ChipGame → Type 0
AddsChips g more (Ok game) = HasRoomForChips g more × HasMore g more game
AddsChips g more (Err game) = (max_total < sum g.start + all_brought more) × (game ≡ g)
