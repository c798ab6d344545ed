-- The graph of the worked examples.
use Rattle.std.specs.Prelude.{ℕ, [], ◌∷◌}
use Rattle.chip_graph.specs.declared.edge.Edge.{Edge}
use Rattle.chip_graph.specs.Multigraph.{Multigraph}

-- an edge that brings one chip
abbrev pub single_edge : ℕ → ℕ → Edge
single_edge tail head = record { tail = tail; head = head; mult = 1 }

-- the triangle: vertices 0 and 1 send a chip to each other and one to the sink, 2
abbrev pub triangle : Multigraph
triangle = record { vertices = 3; sink = 2; edges = single_edge 0 1 ∷ single_edge 0 2 ∷ single_edge 1 0 ∷ single_edge 1 2 ∷ [] }
