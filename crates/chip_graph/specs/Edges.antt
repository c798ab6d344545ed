-- The edges of a running game by number: the graph's own edges, and then for each vertex the root edge that brings its
-- first chips. The root is a number after the vertices. All functions are total.
use Rattle.std.specs.Prelude.{◌≡◌, ℕ, ◌+◌, ◌-◌, ◌<◌, ◌≤◌, nat_lt, Bool, if◌then◌else◌, length, Option, Some, None}
use Rattle.chip_graph.specs.declared.edge.AnyEdge.{AnyEdge}
use Rattle.chip_graph.specs.declared.edge.AnyEdge.TheVariants.{Own, Root}
use Rattle.chip_graph.specs.Multigraph.{Multigraph, edge_at}

-- the number of edges of the graph
abbrev pub own_edges : Multigraph → ℕ
own_edges G = length G.edges

-- the number of edges, the root's among them
abbrev pub edges_and_roots : Multigraph → ℕ
edges_and_roots G = length G.edges + G.vertices

-- the root, as the tail of the root edges
abbrev pub root_place : Multigraph → ℕ
root_place G = G.vertices

-- the edge from the root to v
abbrev pub root_edge_to : Multigraph → ℕ → ℕ
root_edge_to G v = length G.edges + v

-- e is an edge of the graph, not a root edge
abbrev pub is_graph_edge : Multigraph → ℕ → Bool
is_graph_edge G e = nat_lt e (length G.edges)

-- the tail of e, which sends on it
abbrev pub edge_tail : Multigraph → ℕ → ℕ
edge_tail G e = if nat_lt e (length G.edges) then (edge_at G e).tail else G.vertices

-- the head of e, which receives from it
abbrev pub edge_head : Multigraph → ℕ → ℕ
edge_head G e = if nat_lt e (length G.edges) then (edge_at G e).head else e - length G.edges

-- the edge with this number, if there is one: one of the graph's own, or the root edge into a vertex
abbrev pub IsNumbered : Multigraph → ℕ → Option AnyEdge → Type 0
IsNumbered G e (Some (Own edge)) = (e < own_edges G) × (edge ≡ edge_at G e)
IsNumbered G e (Some (Root head)) = (head < G.vertices) × (e ≡ root_edge_to G head)
IsNumbered G e None = edges_and_roots G ≤ e
