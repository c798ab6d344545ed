-- A chip-firing game, as plain data.
use Rattle.std.specs.Prelude.{◌≡◌, ℕ, ◌≤◌, List, length, sum}
use Rattle.chip_graph.specs.Limits.{max_total, max_limit}
use Rattle.chip_graph.specs.Multigraph.{Multigraph, IsGraph}

-- the view of a `Game`: the graph, the chips at the start by vertex, and the most firings of each vertex
pub record ChipGame : Type 0 where
  pub graph : Multigraph
  pub start : List ℕ
  pub limit : ℕ

-- a game within the limits
pub record IsGame (g : ChipGame) : Type 0 where
  pub graph_fits : IsGraph g.graph
  pub start_fits : length g.start ≡ g.graph.vertices
  pub few_chips : sum g.start ≤ max_total
  pub low_limit : g.limit ≤ max_limit
