-- Serves Faults.antt, Multigraph.antt, Ends.antt.
-- What follows if the rows of a graph have no fault.
use Rattle.chip_graph.proofs.Names.{◌≡◌, ℕ, zero, suc, ◌<◌, ◌≤◌, List, [], ◌∷◌, ◌+◌, length, drop, Option, Some, None}
use Rattle.chip_graph.proofs.Names.{Ok, Err, ap, arith, add-one, rules, nat_tests, Edge, End, end_of, edge_of}
use Rattle.chip_graph.proofs.Names.{SizeLimits, max_vertices, Multigraph, IsEdge, IsGraphWithin, ReachesSink, edge_at}
use Rattle.chip_graph.proofs.Names.{fault_of_edge, fault_of_edges, fault_of_sizes, fault_of_rows, GraphFault}
use Rattle.std.proofs.Math.Seq.{drop-cons}
use Rattle.chip_graph.specs.Ends.{FitsWords}
use Rattle.chip_graph.specs.Limits.{AreLimits}
use Rattle.chip_graph.specs.Faults.{first_of_faults, refusal}

-- where the test of a fault passes, there is none
pub accepted : {F : Type 0} (fault : Option F) → Ok tt ≡ refusal fault → fault ≡ None
accepted fault is = grind arith

-- a fault that a test returned exists
pub told : {F : Type 0} (fault : Option F) (is : F) → Err is ≡ refusal fault → fault ≡ Some is
told fault is e = grind arith

-- an edge without a fault leaves those of the later ones
pub edges_next : (vertices sink i : ℕ) (edges : List Edge) → i < length edges
    → fault_of_edge vertices sink i (edge_of edges i) ≡ None
    → fault_of_edges vertices sink i (drop i edges) ≡ fault_of_edges vertices sink (i + 1) (drop (i + 1) edges)
edges_next vertices sink i edges l none =
    rw (add-one, drop-cons edges i (record { tail = 0; head = 0; mult = 0 }) l, none)

pub edge_ok : (vertices sink i : ℕ) (edge : Edge) → fault_of_edge vertices sink i edge ≡ None → IsEdge vertices sink edge
edge_ok vertices sink i edge is = search (rules, arith, nat_tests)

pub edges_ok : (vertices sink i : ℕ) (edges : List Edge) → fault_of_edges vertices sink i edges ≡ None → (e : ℕ)
    → e < length edges → IsEdge vertices sink (edge_of edges e)
edges_ok vertices sink i [] is e l = absurd (omega arith)
edges_ok vertices sink i (edge ∷ edges) is zero l = edge_ok vertices sink i edge (grind arith)
edges_ok vertices sink i (edge ∷ edges) is (suc e) l =
    edges_ok vertices sink (suc i) edges (grind arith) e (omega arith)

-- no rows without a fault are more than the limit allows
pub rows_few : (limits : SizeLimits) (G : Multigraph) → fault_of_rows limits G ≡ None → length G.edges ≤ limits.edges
rows_few limits G is = grind (arith, nat_tests)

module _ (limits : SizeLimits) (G : Multigraph)
    (sizes : fault_of_sizes limits G.vertices G.sink (length G.edges) ≡ None) where
  pub sizes_vertices : (0 < G.vertices) × (G.vertices ≤ limits.vertices)
  sizes_vertices = (grind (arith, nat_tests), grind (arith, nat_tests))

  pub sizes_sink : G.sink < G.vertices
  sizes_sink = grind (arith, nat_tests)

  pub sizes_edges : length G.edges ≤ limits.edges
  sizes_edges = grind (arith, nat_tests)

  -- then a fault of the rows is a fault of an edge
  pub rows_as_edges : fault_of_rows limits G ≡ fault_of_edges G.vertices G.sink 0 G.edges
  rows_as_edges = ap (λ (f : Option GraphFault). first_of_faults f (fault_of_edges G.vertices G.sink 0 G.edges)) sizes

  pub rows_graph : fault_of_edges G.vertices G.sink 0 G.edges ≡ None → AreLimits limits
      → ((v : ℕ) → v < G.vertices → ReachesSink G v) → IsGraphWithin limits G
  rows_graph none few all =
      let vertices = sizes_vertices in let sink = sizes_sink in let edges = sizes_edges in
      let fit = edges_ok G.vertices G.sink 0 G.edges none in search (rules, arith)

-- each edge is one that a graph may have
abbrev pub AreEdges : Multigraph → Type 0
AreEdges G = (e : ℕ) → e < length G.edges → IsEdge G.vertices G.sink (edge_at G e)

-- both ends of an edge are vertices
pub edges_end : (G : Multigraph) → AreEdges G → (end : End) (e : ℕ) → e < length G.edges
    → end_of end (edge_at G e) < G.vertices
edges_end G are end e l = let is = are e l in grind arith

-- and its numbers fit 32 bits
pub edges_short : (G : Multigraph) → AreEdges G → G.vertices ≤ max_vertices → (e : ℕ) → e < length G.edges
    → FitsWords (edge_at G e)
edges_short G are few e l = let is = are e l in search (rules, arith)
