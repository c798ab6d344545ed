-- The edges of a running game by number: those of its graph, then the root's. The root and the stopper are numbers
-- after the vertices. All functions are total.
use Rattle.std.specs.Prelude.{ℕ, ◌+◌, ◌*◌, ◌==◌, nat_lt, if◌then◌else◌, slice_index, Option, Some, None}
use Rattle.chip_graph.specs.Multigraph.{edge_at}
use Rattle.chip_graph.specs.Edges as edges
use Rattle.chip_part.specs.Setting.{Setting}
use Rattle.chip_graph.specs.Sums.{sum_below}

-- the number of edges of the graph
abbrev pub graph_edges : Setting → ℕ
graph_edges g = edges.own_edges g.game.graph

-- the number of edges, the root's among them
abbrev pub all_edges : Setting → ℕ
all_edges g = edges.edges_and_roots g.game.graph

-- the root, as the tail of the root edges
abbrev pub root : Setting → ℕ
root g = edges.root_place g.game.graph

-- the stopper, which seals edges
abbrev pub stopper : Setting → ℕ
stopper g = g.game.graph.vertices + 1

-- the edge from the root to v
abbrev pub root_edge : Setting → ℕ → ℕ
root_edge g v = edges.root_edge_to g.game.graph v

-- the tail of e, which sends on it
abbrev pub tail_of : Setting → ℕ → ℕ
tail_of g e = edges.edge_tail g.game.graph e

-- the head of e, which receives from it
abbrev pub head_of : Setting → ℕ → ℕ
head_of g e = edges.edge_head g.game.graph e

-- the head of an edge, if the edge is there
abbrev pub head_if : Setting → ℕ → Option ℕ
head_if g e = if nat_lt e (all_edges g) then Some (head_of g e) else None

-- the tail of an edge of the graph, if it is one
abbrev pub tail_if : Setting → ℕ → Option ℕ
tail_if g e = if nat_lt e (graph_edges g) then Some (tail_of g e) else None

-- the chips that one firing of its tail sends along e, 0 for a root edge
abbrev pub mult_of : Setting → ℕ → ℕ
mult_of g e = (edge_at g.game.graph e).mult

-- the chips of v at the start
abbrev pub start_of : Setting → ℕ → ℕ
start_of g v = slice_index g.game.start v

-- the sum of f over all edges out of v
abbrev pub over_outs : Setting → ℕ → (ℕ → ℕ) → ℕ
over_outs g v f = sum_below (all_edges g) (λ e. if tail_of g e == v then f e else 0)

-- the sum of f over all edges into v, its root edge among them
abbrev pub over_ins : Setting → ℕ → (ℕ → ℕ) → ℕ
over_ins g v f = sum_below (all_edges g) (λ e. if head_of g e == v then f e else 0)

-- the chips that `fired` firings of its tail put into e, an edge of the graph
abbrev pub chips_of_firings : Setting → ℕ → ℕ → ℕ
chips_of_firings g e fired = mult_of g e * fired
