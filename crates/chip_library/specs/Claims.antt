-- Claimed counts and chips of a game's end.
use Rattle.std.specs.Prelude.{◌≡◌, ◌⊎◌, ℕ, ◌<◌, List, length, slice_index, Result, Ok, Err}
use Rattle.chip_graph.specs.Multigraph.{IsGraph}
use Rattle.chip_graph.specs.ChipGame.{ChipGame, IsGame}
use Rattle.chip_sequence.specs.Counted.{game_from}
use Rattle.chip_sequence.specs.Play.{IsPlayed}
use Rattle.chip_sequence.specs.declared.outcome.Outcome.{Outcome}
use Rattle.chip_library.specs.declared.edges.EdgeLists.{EdgeLists}
use Rattle.chip_library.specs.declared.fault.CallFault.{CallFault}
use Rattle.chip_library.specs.declared.fault.CallFault.TheVariants.{Lengths, Differs, NoMemory}
use Rattle.chip_library.specs.EdgeLists.{HasWholeRows, graph_of}
use Rattle.chip_library.specs.CallFaults.{IsFaultOfGraph, IsFaultOfGame}

-- the slices have matching lengths
pub record IsClaim (lists : EdgeLists) (chips fired ends : List ℕ) : Type 0 where
  pub edges : HasWholeRows lists
  pub fired_each : length fired ≡ length chips
  pub ends_each : length ends ≡ length chips

-- the counts and the chips of v are those of the outcome
pub record AgreesAt (o : Outcome) (fired ends : List ℕ) (v : ℕ) : Type 0 where
  pub fired_is : slice_index fired v ≡ slice_index o.fired.items v
  pub chips_is : slice_index ends v ≡ slice_index o.chips.items v

-- v is the least vertex where they differ
pub record IsDifference (o : Outcome) (fired ends : List ℕ) (v : ℕ) : Type 0 where
  pub is_vertex : v < length fired
  pub differs : AgreesAt o fired ends v → ⊥
  pub agrees_below : (u : ℕ) → u < v → AgreesAt o fired ends u

-- the first fault of a claim: of the lengths, else of the graph, else of the game, else a vertex that differs
abbrev pub IsClaimFault : EdgeLists → ChipGame → (fired ends : List ℕ) → CallFault → Type 0
IsClaimFault lists g fired ends fault =
    ((fault ≡ Lengths) × (IsClaim lists g.start fired ends → ⊥))
    ⊎ (IsClaim lists g.start fired ends × IsFaultOfGraph g.graph fault)
    ⊎ (IsClaim lists g.start fired ends × IsGraph g.graph × IsFaultOfGame g 0 fault)
    ⊎ (IsClaim lists g.start fired ends × IsGame g × (fault ≡ NoMemory))
    ⊎ (IsClaim lists g.start fired ends × IsGame g
    × (o : Outcome) × IsPlayed g o × (v : ℕ) × (fault ≡ Differs v) × IsDifference o fired ends v)

-- what a call for a claim returns: the counts and the chips are those of the outcome, or the first fault
abbrev pub Verifies : EdgeLists → ℕ → (chips fired ends : List ℕ) → Result (Unit {0}) CallFault → Type 0
Verifies lists limit chips fired ends (Ok done) =
    IsClaim lists chips fired ends × IsGame (game_from (graph_of lists) chips limit)
    × (o : Outcome) × IsPlayed (game_from (graph_of lists) chips limit) o
    × ((v : ℕ) → v < length fired → AgreesAt o fired ends v)
Verifies lists limit chips fired ends (Err fault) =
    IsClaimFault lists (game_from (graph_of lists) chips limit) fired ends fault
