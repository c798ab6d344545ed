-- A directed multigraph with a global sink, as plain data
-- (Björner and Lovász, Chip-firing games on directed graphs, 1992).
use Rattle.std.specs.Prelude.{◌≡◌, ◌≢◌, ℕ, ◌<◌, ◌≤◌, ◌==◌, if◌then◌else◌, List, [], ◌∷◌, length, slice_index_or}
use Rattle.chip_graph.specs.declared.edge.Edge.{Edge}
use Rattle.chip_graph.specs.declared.edge.Link.{Link}
use Rattle.chip_graph.specs.Limits.{SizeLimits, max_vertices, max_edges, max_mult}
use Rattle.chip_graph.specs.Sums.{sum_below, filter_below}

-- the view of a `Graph`: vertices 0 to vertices - 1, the sink, and the edges by number
pub record Multigraph : Type 0 where
  pub vertices : ℕ
  pub sink : ℕ
  pub edges : List Edge

-- the edge with this number
abbrev pub edge_at : Multigraph → ℕ → Edge
edge_at G e = slice_index_or G.edges e (record { tail = 0; head = 0; mult = 0 })

-- the part of an edge that a firing of its tail reads
abbrev pub link_of : Edge → Link
link_of edge = record { head = edge.head; mult = edge.mult }

-- the edges out of v, ascending
abbrev pub edges_out : Multigraph → ℕ → List ℕ
edges_out G v = filter_below (λ e. (edge_at G e).tail == v) (length G.edges)

-- the edges into v, ascending
abbrev pub edges_in : Multigraph → ℕ → List ℕ
edges_in G v = filter_below (λ e. (edge_at G e).head == v) (length G.edges)

-- the sum of f over the edges out of v
abbrev pub sum_out : Multigraph → ℕ → (ℕ → ℕ) → ℕ
sum_out G v f = sum_below (length G.edges) (λ e. if (edge_at G e).tail == v then f e else 0)

-- the sum of f over the edges into v
abbrev pub sum_in : Multigraph → ℕ → (ℕ → ℕ) → ℕ
sum_in G v f = sum_below (length G.edges) (λ e. if (edge_at G e).head == v then f e else 0)

-- the out-degree of v, each edge counted with its multiplicity
abbrev pub degree : Multigraph → ℕ → ℕ
degree G v = sum_out G v (λ e. (edge_at G e).mult)

-- a walk from v to w: a list of edges, each beginning where the one before it ends
abbrev pub IsWalk : Multigraph → ℕ → List ℕ → ℕ → Type 0
IsWalk G v [] w = v ≡ w
IsWalk G v (e ∷ es) w = (e < length G.edges) × ((edge_at G e).tail ≡ v) × IsWalk G (edge_at G e).head es w

-- some walk leads from v to the sink
abbrev pub ReachesSink : Multigraph → ℕ → Type 0
ReachesSink G v = (es : List ℕ) × IsWalk G v es G.sink

-- a shortest walk from v to the sink has `distance` edges
pub record IsDistance (G : Multigraph) (v distance : ℕ) : Type 0 where
  pub reached : (es : List ℕ) × IsWalk G v es G.sink × (length es ≡ distance)
  pub shortest : (es : List ℕ) → IsWalk G v es G.sink → distance ≤ length es

-- an edge that a graph of `vertices` vertices with this sink may have: no loop, and none out of the sink
pub record IsEdge (vertices sink : ℕ) (edge : Edge) : Type 0 where
  pub tail_is_vertex : edge.tail < vertices
  pub head_is_vertex : edge.head < vertices
  pub some_chips : 0 < edge.mult
  pub few_chips : edge.mult ≤ max_mult
  pub no_loop : edge.tail ≢ edge.head
  pub not_from_sink : edge.tail ≢ sink

-- a graph within the greatest limits, in which every vertex reaches the sink
pub record IsGraph (G : Multigraph) : Type 0 where
  pub some_vertex : 0 < G.vertices
  pub few_vertices : G.vertices ≤ max_vertices
  pub sink_is_vertex : G.sink < G.vertices
  pub few_edges : length G.edges ≤ max_edges
  pub edges_fit : (e : ℕ) → e < length G.edges → IsEdge G.vertices G.sink (edge_at G e)
  pub all_reach : (v : ℕ) → v < G.vertices → ReachesSink G v

-- a graph within these limits
pub record IsGraphWithin (limits : SizeLimits) (G : Multigraph) : Type 0 where
  pub graph : IsGraph G
  pub within_vertices : G.vertices ≤ limits.vertices
  pub within_edges : length G.edges ≤ limits.edges
