-- The faults of a graph or a game: the first one in order.
use Rattle.std.specs.Prelude.{◌≡◌, ◌⊎◌, ℕ, suc, ◌<◌, ◌==◌, nat_lt, nat_le, Bool, ◌&&◌, not, if◌then◌else◌}
use Rattle.std.specs.Prelude.{List, [], ◌∷◌, length, sum, Option, Some, None, Result, Ok, Err}
use Rattle.chip_graph.specs.declared.edge.Edge.{Edge}
use Rattle.chip_graph.specs.declared.fault.GraphFault.{GraphFault}
use Rattle.chip_graph.specs.declared.fault.GraphFault.TheVariants as graph_fault
use Rattle.chip_graph.specs.declared.fault.GameFault.{GameFault}
use Rattle.chip_graph.specs.declared.fault.GameFault.TheVariants as game_fault
use Rattle.chip_graph.specs.Limits.{SizeLimits, max_mult, max_total, max_limit}
use Rattle.chip_graph.specs.Multigraph.{Multigraph, ReachesSink, IsGraphWithin}
use Rattle.chip_graph.specs.ChipGame.{ChipGame}

-- the first of two faults, if there is one
abbrev pub first_of_faults : {F : Type 0} → Option F → Option F → Option F
first_of_faults None later = later
first_of_faults (Some fault) later = Some fault

-- a fault if a test fails
abbrev pub fault_unless : {F : Type 0} → Bool → F → Option F
fault_unless test fault = if test then None else Some fault

-- the first fault of edge i
abbrev pub fault_of_edge : ℕ → ℕ → ℕ → Edge → Option GraphFault
fault_of_edge vertices sink i edge =
    first_of_faults (fault_unless (nat_lt edge.tail vertices && nat_lt edge.head vertices) (graph_fault.Endpoint i))
    (first_of_faults (fault_unless (nat_lt 0 edge.mult && nat_le edge.mult max_mult) (graph_fault.Mult i))
    (first_of_faults (fault_unless (not (edge.tail == edge.head)) (graph_fault.Loop i))
    (fault_unless (not (edge.tail == sink)) (graph_fault.FromSink i))))

-- the first fault of the edges, the first of which has the number i
abbrev pub fault_of_edges : ℕ → ℕ → ℕ → List Edge → Option GraphFault
fault_of_edges vertices sink i [] = None
fault_of_edges vertices sink i (edge ∷ edges) =
    first_of_faults (fault_of_edge vertices sink i edge) (fault_of_edges vertices sink (suc i) edges)

-- the first fault of the sizes of a graph within these limits
abbrev pub fault_of_sizes : SizeLimits → ℕ → ℕ → ℕ → Option GraphFault
fault_of_sizes limits vertices sink edges =
    first_of_faults (fault_unless (nat_lt 0 vertices && nat_le vertices limits.vertices) graph_fault.Vertices)
    (first_of_faults (fault_unless (nat_lt sink vertices) graph_fault.Sink)
    (fault_unless (nat_le edges limits.edges) graph_fault.EdgeCount))

-- the first fault of a graph within these limits, walks aside
abbrev pub fault_of_rows : SizeLimits → Multigraph → Option GraphFault
fault_of_rows limits G =
    first_of_faults (fault_of_sizes limits G.vertices G.sink (length G.edges))
    (fault_of_edges G.vertices G.sink 0 G.edges)

-- v is the least vertex from which no walk leads to the sink
pub record IsUnreached (G : Multigraph) (v : ℕ) : Type 0 where
  pub is_vertex : v < G.vertices
  pub unreached : ReachesSink G v → ⊥
  pub least : (u : ℕ) → u < v → ReachesSink G u

-- the fault names the least vertex from which no walk leads to the sink
abbrev pub NamesUnreached : Multigraph → GraphFault → Type 0
NamesUnreached G fault = (v : ℕ) × (fault ≡ graph_fault.Unreached v) × IsUnreached G v

-- the first fault of a graph within these limits
abbrev pub IsGraphFault : SizeLimits → Multigraph → GraphFault → Type 0
IsGraphFault limits G fault =
    (fault_of_rows limits G ≡ Some fault)
    ⊎ ((fault_of_rows limits G ≡ None) × NamesUnreached G fault)

-- a test that passes, or fails with its fault
abbrev pub refusal : {F : Type 0} → Option F → Result (Unit {0}) F
refusal None = Ok tt
refusal (Some fault) = Err fault

-- the result of making a graph: the graph if it is one within the limits, else its first fault; memory runs out only if
-- the rows have no fault, since nothing is allocated before they are checked
abbrev pub MakesGraph : SizeLimits → Multigraph → Result Multigraph GraphFault → Type 0
MakesGraph limits G (Ok graph) = (graph ≡ G) × IsGraphWithin limits G
MakesGraph limits G (Err fault) =
    ((fault ≡ graph_fault.NoMemory) × (fault_of_rows limits G ≡ None)) ⊎ IsGraphFault limits G fault

-- the first fault of a game on a graph
abbrev pub fault_of_game : ChipGame → Option GameFault
fault_of_game g =
    first_of_faults (fault_unless (length g.start == g.graph.vertices) game_fault.StartLength)
    (first_of_faults (fault_unless (nat_le (sum g.start) max_total) game_fault.Total)
    (fault_unless (nat_le g.limit max_limit) game_fault.Limit))

-- the result of making a game: the game if it is one, else its first fault
abbrev pub MakesGame : ChipGame → Result ChipGame GameFault → Type 0
MakesGame g (Ok game) = (game ≡ g) × (fault_of_game g ≡ None)
MakesGame g (Err fault) = fault_of_game g ≡ Some fault
