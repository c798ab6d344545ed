-- What a graph stores besides its edges, as computed from them.
use Rattle.std.specs.Prelude.{◌≡◌, ℕ, ◌<◌, List, [], length, map, slice_index, slice_index_or, Some}
use Rattle.chip_graph.specs.declared.graph.Rows.TheInside.{Inside}
use Rattle.chip_graph.specs.declared.edge.Link.{Link}
use Rattle.chip_graph.specs.PackedLists.{flat}
use Rattle.chip_graph.specs.Multigraph.{Multigraph, IsGraph, edge_at, link_of, edges_out, edges_in, degree}
use Rattle.chip_graph.specs.Distances.{AreDistances}

-- the graph without what is computed from its edges
abbrev pub graph_inside : Inside → Multigraph
graph_inside a = record { vertices = a.vertices; sink = a.sink; edges = a.edges.items }

-- degrees, distances and lists are those of the graph, and the links are the edges out of each vertex in turn
pub record IsIndex (G : Multigraph) (degree_of : List ℕ) (distance_of : List ℕ) (outs_of ins_of : List (List ℕ))
    (links : List Link) : Type 0 where
  pub graph : IsGraph G
  pub degree_each : length degree_of ≡ G.vertices
  pub degrees : (v : ℕ) → v < G.vertices → slice_index degree_of v ≡ degree G v
  pub distances : AreDistances G (map (λ d. Some d) distance_of)
  pub outs_each : length outs_of ≡ G.vertices
  pub outs : (v : ℕ) → v < G.vertices → slice_index_or outs_of v [] ≡ edges_out G v
  pub ins_each : length ins_of ≡ G.vertices
  pub ins : (v : ℕ) → v < G.vertices → slice_index_or ins_of v [] ≡ edges_in G v
  pub linked : links ≡ map (λ e. link_of (edge_at G e)) (flat outs_of)

-- the stored data is that of the edges
abbrev pub IsIndexed : Inside → Type 0
IsIndexed a = IsIndex (graph_inside a) a.degrees.items a.distances.items a.outs a.ins a.links.items
