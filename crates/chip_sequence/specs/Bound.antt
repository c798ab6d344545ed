-- Bounds on the firings of a vertex, by its distance from the sink.
use Rattle.std.specs.Prelude.{ℕ, zero, suc, ◌+◌, ◌*◌, ◌<◌, ◌≤◌, ◌==◌, nat_lt, Bool, not, ◌&&◌, if◌then◌else◌, max}
use Rattle.std.specs.Prelude.{List, length}
use Rattle.chip_graph.specs.Sums.{filter_below}
use Rattle.chip_graph.specs.Multigraph.{Multigraph, degree, IsWalk, IsDistance}
use Rattle.chip_sequence.specs.Certificate.{in_degree}

-- the greatest of f 0 to f (n - 1), or 0
abbrev pub greatest_below : ℕ → (ℕ → ℕ) → ℕ
greatest_below zero f = 0
greatest_below (suc n) f = max (greatest_below n f) (f n)

-- the greatest out-degree
abbrev pub greatest_degree : Multigraph → ℕ
greatest_degree G = greatest_below G.vertices (degree G)

-- some vertex has this distance from the sink, and none a greater one
pub record IsGreatestDistance (G : Multigraph) (distance : ℕ) : Type 0 where
  pub reached : (v : ℕ) × (v < G.vertices) × IsDistance G v distance
  pub greatest : (v : ℕ) → v < G.vertices → (es : List ℕ) × IsWalk G v es G.sink × (length es ≤ distance)

-- the bound at a distance, if there are `total` chips and no out-degree is above `degree`
abbrev pub firing_bound : ℕ → ℕ → ℕ → ℕ
firing_bound total degree zero = 0
firing_bound total degree (suc distance) = total + degree * firing_bound total degree distance

-- whether no in-degree but the sink's is above the degree
abbrev pub has_few_in : Multigraph → Bool
has_few_in G = length (filter_below (λ v. not (v == G.sink) && nat_lt (degree G v) (in_degree G v)) G.vertices) == 0

-- the most firings of a vertex at a distance, if there are `total` chips
abbrev pub fires_at_distance : Multigraph → ℕ → ℕ → ℕ
fires_at_distance G total distance =
    if has_few_in G then total * distance else firing_bound total (greatest_degree G) distance
