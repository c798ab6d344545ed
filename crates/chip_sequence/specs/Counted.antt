-- Configurations by counts: the chips after each vertex v has fired f v times, in any order.
use Rattle.std.specs.Prelude.{◌≡◌, ℕ, ◌+◌, ◌-◌, ◌*◌, ◌<◌, List, length, sum, slice_index}
use Rattle.chip_graph.specs.Multigraph.{Multigraph, edge_at, sum_in, degree}
use Rattle.chip_graph.specs.ChipGame.{ChipGame}

-- what flows into u along its edges
abbrev pub inflow : Multigraph → (ℕ → ℕ) → ℕ → ℕ
inflow G f u = sum_in G u (λ e. (edge_at G e).mult * f (edge_at G e).tail)

-- the chips of u: those of the configuration x and what flows in, less what the firings of u take away
abbrev pub position_by_counts : Multigraph → (ℕ → ℕ) → (ℕ → ℕ) → ℕ → ℕ
position_by_counts G x f u = (x u + inflow G f u) - degree G u * f u

-- the firings of u take away more than it ever has
abbrev pub IsBelowZero : Multigraph → (ℕ → ℕ) → (ℕ → ℕ) → ℕ → Type 0
IsBelowZero G x f u = (x u + inflow G f u) < degree G u * f u

-- v is the least vertex that is below 0
pub record IsLeastBelowZero (G : Multigraph) (x f : ℕ → ℕ) (v : ℕ) : Type 0 where
  pub is_vertex : v < G.vertices
  pub below : IsBelowZero G x f v
  pub least : (u : ℕ) → u < v → IsBelowZero G x f u → ⊥

-- no vertex of the game is below 0 by these counts, and the chips are those by the counts, with the total of the start
pub record IsAfter (g : ChipGame) (fired chips : List ℕ) : Type 0 where
  pub none_below : (v : ℕ) → v < g.graph.vertices → IsBelowZero g.graph (slice_index g.start) (slice_index fired) v → ⊥
  pub chips_each : length chips ≡ g.graph.vertices
  pub by_counts : (v : ℕ) → v < g.graph.vertices
      → slice_index chips v ≡ position_by_counts g.graph (slice_index g.start) (slice_index fired) v
  pub kept : sum chips ≡ sum g.start

-- the game on this graph with these chips at the start, and a firing limit
abbrev pub game_from : Multigraph → List ℕ → ℕ → ChipGame
game_from G start limit = record { graph = G; start = start; limit = limit }
