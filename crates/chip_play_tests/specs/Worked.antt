-- Bounds on the firings of a vertex, worked out by hand.
use Rattle.std.specs.Prelude.{◌≡◌, true, false, [], ◌∷◌}
use Rattle.chip_graph.specs.Multigraph.{Multigraph}
use Rattle.chip_graph.specs.Worked.{triangle}
use Rattle.chip_sequence.specs.Bound.{fires_at_distance, greatest_degree, has_few_in}

-- two edges lead from vertex 0 to vertex 1, and one leads from there to the sink
abbrev pub narrow : Multigraph
narrow = record {
  vertices = 3;
  sink = 2;
  edges = record { tail = 0; head = 1; mult = 2 } ∷ record { tail = 1; head = 2; mult = 1 } ∷ [];
}

-- with 4 chips, at distance 2: on the triangle no in-degree is above the degree, and the bound is 4 * 2; on the other
-- graph it is 4 + 2 * 4
pub record WorkedBounds : Type 0 where
  pub few : has_few_in triangle ≡ true
  pub by_distance : fires_at_distance triangle 4 2 ≡ 8
  pub many : has_few_in narrow ≡ false
  pub degree : greatest_degree narrow ≡ 2
  pub by_degree : fires_at_distance narrow 4 2 ≡ 12
  pub sink : fires_at_distance narrow 4 0 ≡ 0
