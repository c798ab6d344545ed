-- The result of playing a game to its end.
use Rattle.std.specs.Prelude.{◌≡◌, ℕ, ◌≤◌, List, [], length, sum, slice_index}
use Rattle.chip_graph.specs.ChipGame.{ChipGame}
use Rattle.chip_sequence.specs.declared.outcome.Outcome.{Outcome}
use Rattle.chip_sequence.specs.Firing.{legal_vertices}
use Rattle.chip_sequence.specs.Sequence.{position_after, counts, IsWholePlay}
use Rattle.chip_sequence.specs.Bound.{IsGreatestDistance, greatest_degree, firing_bound}

-- the outcome of a game within its limit: some whole play exists, and every one of them has these counts and ends with
-- these chips
pub record IsPlayed (g : ChipGame) (o : Outcome) : Type 0 where
  pub ends : (vs : List ℕ) × IsWholePlay g.graph (slice_index g.start) g.limit vs
  pub fired_each : length o.fired.items ≡ g.graph.vertices
  pub chips_each : length o.chips.items ≡ g.graph.vertices
  pub counted : (vs : List ℕ) → IsWholePlay g.graph (slice_index g.start) g.limit vs → (v : ℕ)
      → slice_index o.fired.items v ≡ counts vs v
  pub position : (vs : List ℕ) → IsWholePlay g.graph (slice_index g.start) g.limit vs → (v : ℕ)
      → slice_index o.chips.items v ≡ position_after g.graph (slice_index g.start) vs v
  pub low_counts : (v : ℕ) → slice_index o.fired.items v ≤ g.limit
  pub kept : sum o.chips.items ≡ sum g.start
  pub over : o.over.items ≡ legal_vertices g.graph (slice_index o.chips.items)
  pub sealed : o.sealed.items ≡ []

-- the limit is at least the firing bound at the greatest distance from the sink
abbrev pub IsEnough : ChipGame → Type 0
IsEnough g = (distance : ℕ) × IsGreatestDistance g.graph distance
    × (firing_bound (sum g.start) (greatest_degree g.graph) distance ≤ g.limit)
