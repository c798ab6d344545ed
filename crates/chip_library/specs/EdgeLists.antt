-- A graph as lists with one number for each edge.
use Rattle.std.specs.Prelude.{◌≡◌, ℕ, zero, suc, List, [], ◌∷◌, ◌++◌, length, slice_index}
use Rattle.chip_graph.specs.declared.edge.Edge.{Edge}
use Rattle.chip_graph.specs.Multigraph.{Multigraph}
use Rattle.chip_library.specs.declared.edges.EdgeLists.{EdgeLists}

-- each list has one number per edge
pub record HasWholeRows (lists : EdgeLists) : Type 0 where
  pub heads_each : length lists.heads.now ≡ length lists.tails.now
  pub mults_each : length lists.mults.now ≡ length lists.tails.now

-- the first n edges
abbrev pub edges_below : (tails heads mults : List ℕ) → ℕ → List Edge
edges_below tails heads mults zero = []
edges_below tails heads mults (suc n) =
    edges_below tails heads mults n
    ++ record { tail = slice_index tails n; head = slice_index heads n; mult = slice_index mults n } ∷ []

-- all edges
abbrev pub edges_of : EdgeLists → List Edge
edges_of lists = edges_below lists.tails.now lists.heads.now lists.mults.now (length lists.tails.now)

-- the graph of these lists
abbrev pub graph_of : EdgeLists → Multigraph
graph_of lists = record { vertices = lists.vertices; sink = lists.sink; edges = edges_of lists }
