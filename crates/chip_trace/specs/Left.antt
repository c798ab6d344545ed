-- What is left when rows are used: messages that were not taken, and legal vertices.
use Rattle.std.specs.Prelude.{ℕ, ◌-◌, ◌*◌, nat_lt, if◌then◌else◌, List, ◌++◌, length, map, sum}
use Rattle.chip_link.specs.declared.trace.TraceRow.{TraceRow}
use Rattle.chip_graph.specs.Sums.{filter_below}
use Rattle.chip_graph.specs.Multigraph.{degree}
use Rattle.chip_graph.specs.Edges.{edges_and_roots, edge_head}
use Rattle.chip_graph.specs.ChipGame.{ChipGame}
use Rattle.chip_sequence.specs.Firing.{legal_vertices}
use Rattle.chip_trace.specs.Interleaving.{fires, chips_taken, takes_of, messages}
use Rattle.chip_trace.specs.declared.remaining.Left.{Left}
use Rattle.chip_trace.specs.declared.remaining.Left.TheVariants.{Messages, CanFire, AtLimit}

-- how many messages of an edge were not taken, if the vertices made these firings and `taken e` messages of each edge e
-- were taken
abbrev pub messages_left : ChipGame → (ℕ → List ℕ) → (ℕ → ℕ) → ℕ → ℕ
messages_left g fired taken e = length (messages g fired e) - taken e

-- the chips that v holds: those that it took, without those that its firings sent
abbrev pub chips_held : ChipGame → (ℕ → List ℕ) → (ℕ → ℕ) → ℕ → ℕ
chips_held g fired chips v = chips v - sum (fired v) * degree g.graph v

-- a legal vertex can fire, or it is at its limit
abbrev pub legal_left : ChipGame → (ℕ → List ℕ) → ℕ → Left
legal_left g fired v = if nat_lt (sum (fired v)) g.limit then CanFire v else AtLimit v

-- the edges with messages that were not taken, and then the legal vertices, both ascending, if each vertex v made the
-- firings `fired v` and took `chips v` chips, and `taken e` messages of each edge e were taken
abbrev pub left_of : ChipGame → (ℕ → List ℕ) → (ℕ → ℕ) → (ℕ → ℕ) → List Left
left_of g fired chips taken =
    map (λ e. Messages e (messages_left g fired taken e))
    (filter_below (λ e. nat_lt 0 (messages_left g fired taken e)) (edges_and_roots g.graph))
    ++ map (legal_left g fired) (legal_vertices g.graph (chips_held g fired chips))

-- what is left once each vertex has used these rows
abbrev pub left_after : ChipGame → (ℕ → List TraceRow) → List Left
left_after g used =
    left_of g (λ v. fires (used v)) (λ v. chips_taken (used v)) (λ e. takes_of e (used (edge_head g.graph e)))
