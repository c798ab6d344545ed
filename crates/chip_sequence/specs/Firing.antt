-- Legal vertices and single firings at a configuration (Björner, Lovász and Shor, Chip-firing games on graphs, 1991;
-- directed: Björner and Lovász, 1992). A configuration is a function from vertices to chips.
use Rattle.std.specs.Prelude.{◌≢◌, ℕ, ◌+◌, ◌-◌, ◌<◌, ◌≤◌, ◌==◌, nat_le, ◌&&◌, not, if◌then◌else◌, List}
use Rattle.chip_graph.specs.Sums.{filter_below}
use Rattle.chip_graph.specs.Multigraph.{Multigraph, edge_at, sum_in, degree}

-- v may fire at the configuration x
pub record IsLegal (G : Multigraph) (x : ℕ → ℕ) (v : ℕ) : Type 0 where
  pub is_vertex : v < G.vertices
  pub not_sink : v ≢ G.sink
  pub enough_chips : degree G v ≤ x v

-- no vertex may fire at x
abbrev pub IsStable : Multigraph → (ℕ → ℕ) → Type 0
IsStable G x = (v : ℕ) → IsLegal G x v → ⊥

-- the vertices that may fire at x, ascending
abbrev pub legal_vertices : Multigraph → (ℕ → ℕ) → List ℕ
legal_vertices G x = filter_below (λ v. not (v == G.sink) && nat_le (degree G v) (x v)) G.vertices

-- the configuration after one firing of v at x: its degree leaves v, and each edge out of v brings its multiplicity to
-- its head
abbrev pub fired_once : Multigraph → ℕ → (ℕ → ℕ) → ℕ → ℕ
fired_once G v x u =
    (if u == v then x u - degree G v else x u)
    + sum_in G u (λ e. if (edge_at G e).tail == v then (edge_at G e).mult else 0)
